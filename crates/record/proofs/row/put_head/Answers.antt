-- `put_head`: the words, what is kept, and 23 bytes that are 0. All of it is put together by hand: four words are made on the way. Assumes nothing.
use Rattle.record.proofs.row.Puts.{head-before, head-behind, head-unused, head-row}
use Rattle.record.proofs.row.put_head.Goals as goal

pub put_bytes-b-requires : goal.put_bytes-b-requires
put_bytes-b-requires c = search head-before

pub put_bytes-c-requires : goal.put_bytes-c-requires
put_bytes-c-requires c = search head-behind

pub put_bytes-requires : goal.put_bytes-requires
put_bytes-requires c = search head-unused

pub returns : goal.returns
returns c = head-row _ _ _ _ _ _ _ _ _ _ _ _
    c.put_words-a.ensures
    c.put_bytes-b.ensures
    c.put_bytes-c.ensures
    c.put_bytes.ensures
    c.word.ensures
    c.word-2.ensures
    c.word-3.ensures
    c.word-4.ensures

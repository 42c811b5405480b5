-- The sample run of document 01, "A whole run", computed over the definitions. Assumes nothing.
use mathlib.Core.Path.{◌≡◌, refl}
use Rattle.paper.specs.Bytes.{bytes}
use Rattle.paper.specs.Rewriting.{rewriting}
use Rattle.cases.specs.Asked.{rewrites}

pub sample :
    rewriting
    (bytes
    "C 010118\nUHL1\n1 1501 000000 0300\n2 005001 20180102\n19-19 705 5001 0042 03000558 0000017 led\n3+\n5+\n")
    ≡ bytes "UHL1\r\n1 1501 000000 0300\r\n2 5001 020118\r\n19-19 705 5001 42 03000558 17 AV:led\r\n3 +\r\n5 +\r\n"
unfolding rewrites
sample = refl

-- `first_line` reads the first line on a sheet. Assumes nothing.
use Rattle.std.proofs.Common.{Some, Ok, Err}
use Rattle.std.proofs.lemmas.Result.{err_from_is_err_and}
use Rattle.base.proofs.Cases.{picks}
use Rattle.paper.specs.FirstLine.{read_first}
use Rattle.firstline.proofs.Sound.{step-header, was-header, was-flaw, answer-sound}
use Rattle.firstline.proofs.first_line.Goals as goal

pub returns-in_err-header : goal.returns-in_err-header
returns-in_err-header c =
    let p = err_from_is_err_and c.from_residual.result c.from_residual.ensures.1 in
    let s = c.args.s.now in
    let sh = c.args.sh in
    let x = c.in_err-header.field-0.0 in
    let e = was-flaw s c.read_date.result _ c.read_date.ensures x c.in_err-header.was in
    rw (p.1, p.2) (record { result_value = step-header sh s (Err x) c.if-sh.true e; sound = answer-sound sh.interval sh.short s (Err x) e })

pub returns-then-sh : goal.returns-then-sh
returns-then-sh c =
    let s = c.args.s.now in
    let sh = c.args.sh in
    let h = c.in_ok-header.header in
    let e = was-header s c.read_date.result _ c.read_date.ensures h c.in_ok-header.was in
    record { result_value = step-header sh s (Ok (Some h)) c.if-sh.true e; sound = answer-sound sh.interval sh.short s (Ok (Some h)) e }

pub returns : goal.returns
unfolding read_first
returns c = search picks

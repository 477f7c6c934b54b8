use Rattle.std.proofs.Common.{◌+◌, length, refl}
use Rattle.std.proofs.lemmas.Option.{slice_get_read}
use Rattle.mvm_local.proofs.CodeBytes.{two_bytes}
use Rattle.mvm_local.proofs.bytes.short_at.Goals as goal

pub returns-in-Some-Some : goal.returns-in-Some-Some
returns-in-Some-Some c =
    let h = c.in-Some-Some.ensures.lookup in
    let l = c.in-Some-Some.ensures'.lookup in
    rw (c.from.ensures, c.from-in-Some-Some.ensures)
    (two_bytes c.args.code.now c.args.at c.in-Some-Some.high.now c.in-Some-Some.low.now
    (slice_get_read c.args.code.now (length c.args.code.now) c.args.at c.in-Some-Some.high.now refl h.3.0 h.1)
    (slice_get_read c.args.code.now (length c.args.code.now) (c.args.at + 1) c.in-Some-Some.low.now refl l.3.0 l.1))

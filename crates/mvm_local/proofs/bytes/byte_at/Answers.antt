use Rattle.std.proofs.Common.{length, refl}
use Rattle.std.proofs.lemmas.Option.{slice_get_read}
use Rattle.mvm_local.proofs.CodeBytes.{one_byte}
use Rattle.mvm_local.proofs.bytes.byte_at.Goals as goal

pub returns-in-Some : goal.returns-in-Some
returns-in-Some c =
    let l = c.in-Some.ensures.lookup in
    one_byte c.args.code.now c.args.at c.in-Some.byte.now (slice_get_read c.args.code.now (length c.args.code.now) c.args.at c.in-Some.byte.now refl l.3.0 l.1)

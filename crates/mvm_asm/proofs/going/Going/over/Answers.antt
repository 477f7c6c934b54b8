use Rattle.std.proofs.Common.{◌≡◌, None, refl}
use Rattle.std.specs.Option.{option_copied}
use Rattle.mvm_asm.proofs.Overs.{over}
use Rattle.mvm_asm.proofs.going.Going.over.Goals as goal

pub returns : goal.returns
returns c =
    let i = c.loop-rest.invariant in
    let none : option_copied c.loop-rest.rest ≡ None = rw c.in_default.is refl in
    over c.loop-rest.going c.args.text.now (option_copied c.loop-rest.rest) none i.goes i.count

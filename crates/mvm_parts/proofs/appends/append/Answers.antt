use Rattle.std.proofs.Common.{Bool, false, Result, Ok, Err, ap, arith}
use Rattle.mvm_base.specs.declared.memory.OutOfMemory.{OutOfMemory}
use Rattle.mvm_native.specs.Machine.{machine_of}
use Rattle.mvm_parts.proofs.Appended.{still_builder}
use Rattle.mvm_parts.proofs.appends.append.Goals as goal

abbrev value_in : Result Bool OutOfMemory → Bool
value_in (Ok value) = value
value_in (Err refused) = false

pub returns : goal.returns
returns c done =
    still_builder c.args.number _ (machine_of c.args.env.now) (machine_of c.call.new.env) c.in_ok-out.out c.requires.native c.requires.builder
    (omega (arith, c.used.ensures, c.if-used-ge-WORDS.false)) c.in_ok-out.ensures (c.is_value.ensures (ap value_in done))

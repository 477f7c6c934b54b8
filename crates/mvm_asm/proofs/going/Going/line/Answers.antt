use Rattle.std.proofs.Common.{◌≡◌, ◌+◌, false, is_some, refl}
use Rattle.mvm_statement.specs.Statements.{line_says}
use Rattle.mvm_asm.specs.Turning.{state_of}
use Rattle.mvm_asm.proofs.Faults.{stopped_here}
use Rattle.mvm_asm.proofs.going.Going.line.Goals as goal

pub returns-in-Err-Kind-clause-goes : goal.returns-in-Err-Kind-clause-goes
returns-in-Err-Kind-clause-goes c = λ total more.
    let none : is_some c.args.self.now.fault ≡ false = cc in
    let said = rw c.in-Err-Kind.field-0-is at c.in-Err-Kind.ensures in
    stopped_here total c.args.self.now.count (c.args.self.now.count + 1) c.args.self.now.fault (line_says c.args.line.now) more
    (state_of c.args.self.now.growing) (state_of c.line.new.self) c.in-Err-Kind.kind none refl said.does said.behind

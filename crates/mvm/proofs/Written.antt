-- What a command's output comes to when it is written.
use Rattle.std.proofs.Common.{ℕ, List}
use Rattle.mvm.specs.Launch.{Reading, Writing, HasMade, Takes, AnswersTo}
use Rattle.mvm.specs.declared.outcome.What.{What}
use Rattle.mvm.specs.declared.outcome.What.TheVariants.{Ran, Made, Refused, OutOfMemory}
use Rattle.mvm.specs.declared.words.Command.{Command}
use Rattle.mvm.specs.declared.words.Command.TheVariants.{Run, Assemble, Disassemble}

-- where all of it was taken, the answer stands
pub taken : (command : Command) (source : Reading) (sink : Writing) (what : What) (output : List ℕ) → HasMade command source what output → Takes sink output → AnswersTo command source sink what
taken Run source sink (Ran outcome) output made all = record { output = output; made = made; taken = all }
taken Run source sink Made output made all = absurd made.made
taken Run source sink (Refused refusal) output made all = absurd made.made
taken Run source sink OutOfMemory output made all = absurd made.made
taken Assemble source sink (Ran outcome) output made all = absurd made.made
taken Assemble source sink Made output made all = record { output = output; made = made; taken = all }
taken Assemble source sink (Refused refusal) output made all = absurd made.made
taken Assemble source sink OutOfMemory output made all = absurd made.made
taken Disassemble source sink (Ran outcome) output made all = absurd made.made
taken Disassemble source sink Made output made all = record { output = output; made = made; taken = all }
taken Disassemble source sink (Refused refusal) output made all = absurd made.made
taken Disassemble source sink OutOfMemory output made all = absurd made.made

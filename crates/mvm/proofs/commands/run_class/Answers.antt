use Rattle.std.proofs.Common.{rules}
use Rattle.mvm.specs.declared.words.Command.TheVariants.{Run}
use Rattle.mvm.proofs.commands.run_class.Goals as goal

pub returns-clause-answer : goal.returns-clause-answer
returns-clause-answer g c = λ source read. c.write_output.ensures.answer Run source (record { bytes = c.args.bytes.now; read = read; made = (c.in-Ok.ensures.ok, search rules) })

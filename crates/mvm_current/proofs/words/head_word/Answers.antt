use Rattle.std.proofs.Common.{◌∙◌}
use Rattle.mvm_current.proofs.Reading.{long_is}
use Rattle.mvm_current.proofs.words.head_word.Goals as goal

pub returns-in-Long : goal.returns-in-Long
returns-in-Long c = c.long_in.ensures ∙ long_is c.args.kind c.args.stack.now.operands.slots c.args.left c.peek-in-Long.result c.peek-in-Long-2.result c.in-Long.is c.requires.wide c.peek-in-Long.ensures c.peek-in-Long-2.ensures

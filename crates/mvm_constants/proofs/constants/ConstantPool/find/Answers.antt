use Rattle.std.proofs.Common.{List, Option, subst}
use Rattle.mvm_layout.specs.declared.parts.Item.{Item}
use Rattle.mvm_constants.specs.declared.index.Index.{Index}
use Rattle.mvm_constants.specs.Settling.{IsIndexOf, IsIndexIf}
use Rattle.mvm_constants.proofs.constants.ConstantPool.find.Goals as goal

pub returns-in-Some : goal.returns-in-Some
returns-in-Some c =
    c.find.ensures c.args.self.now
    (subst (λ (pool : List Item). IsIndexOf pool c.in-Some.index) c.self.view_is
    (subst (λ (index : Option Index). IsIndexIf c.self.inside.entries index) c.in-Some.is c.self.invariant.known))

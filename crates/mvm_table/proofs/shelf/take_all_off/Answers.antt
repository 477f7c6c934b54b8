use Rattle.std.proofs.Common.{List, ap, sym, ◌∙◌}
use Rattle.mvm_set.specs.declared.class.Lineage.{Lineage}
use Rattle.mvm_table.specs.Contents.{off, all_off}
use Rattle.mvm_table.proofs.Shelving.{all_off_last}
use Rattle.mvm_table.proofs.shelf.take_all_off.Goals as goal

pub loop-class-preserved : goal.loop-class-preserved
loop-class-preserved c =
    ap (all_off c.pop.new.self.items) (c.take_off.ensures ∙ ap (λ (class : Lineage). off class c.loop-class.shelves.items) c.get.ensures)
    ∙ sym (all_off_last c.pop.new.self.items c.in-Some.class c.loop-class.shelves.items)
    ∙ ap (λ (classes : List Lineage). all_off classes c.loop-class.shelves.items) (sym c.in-Some.ensures.items)
    ∙ c.loop-class.invariant

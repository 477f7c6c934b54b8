use Rattle.std.proofs.Common.{List, [], ◌∷◌, ◌++◌, ap, sym, ◌∙◌}
use Rattle.mvm_set.specs.declared.class.Lineage.{Lineage}
use Rattle.mvm_table.specs.Contents.{all_off}
use Rattle.mvm_table.proofs.Shelving.{new_back}
use Rattle.mvm_table.proofs.table.Table.shelve_new.Goals as goal

pub returns-clause-back : goal.returns-clause-back
returns-clause-back c =
    let a = c.args in
    ap (λ (classes : List Lineage). all_off classes c.shelve_one.new.self.shelves) (c.in_ok-push.ensures.items ∙ ap (λ (class : Lineage). a.put.now.items ++ class ∷ []) c.in_ok-share.ensures)
    ∙ new_back c.shelve_one.result a.put.now.items a.class.now c.requires.name a.self.now c.shelve_one.new.self c.shelve_one.ensures.back c.shelve_one.ensures.err
    (sym c.shelved.ensures ∙ c.if-shelved.false) c.requires.is_name

use Rattle.std.proofs.Common.{◌≡◌, ℕ, List, Option, Some, ap, sym, ◌∙◌}
use Rattle.mvm_set.specs.Names.{own_name}
use Rattle.mvm_set.specs.declared.class.Lineage.{Lineage}
use Rattle.mvm_table.specs.Contents.{Contents}
use Rattle.mvm_table.specs.Files.{all_files}
use Rattle.mvm_table.proofs.Shelving.{on_done, shelved_after, class_moved, stands_put, loaded_so}
use Rattle.mvm_table.proofs.table.Table.shelve_one.Goals as goal

pub invariant_of-self-in-Some : goal.invariant_of-self-in-Some
invariant_of-self-in-Some c =
    let files = all_files c.self.inside.sources c.self.inside.sets in
    let same : files ≡ c.args.self.now.files = ap (λ (t : Contents). t.files) c.self.view_is in
    let o : own_name c.args.class.now.file ≡ Some c.in-Some.name.now = let a = c.in-Some.ensures in let b = c.file.ensures in let d = c.get.ensures in cc in
    let s : c.set.result ≡ c.args.class.now.set = let a = c.set.ensures in let b = c.get-in-Some.ensures in cc in
    let k : c.in_ok-share-in-Some.field-0 ≡ c.args.class.now = c.in_ok-share-in-Some.ensures in
    let l = loaded_so c.args.self.now.files c.args.class.now c.in-Some.name.now c.requires o in (
      c.self.invariant.0,
      shelved_after c.put_on.result c.self.inside.shelves.items c.put_on.new.shelves.items c.set.result c.in-Some.name.now c.in_ok-share-in-Some.field-0 c.put_on.ensures.ok c.put_on.ensures.err files c.self.invariant.1
          (class_moved files c.args.self.now.files c.set.result c.args.class.now.set c.in-Some.name.now c.in_ok-share-in-Some.field-0 c.args.class.now same s k l),
      c.put_on.ensures.count ∙ c.self.invariant.2,
    )

pub returns-in_ok-share-in-Some-clause-shelved : goal.returns-in_ok-share-in-Some-clause-shelved
returns-in_ok-share-in-Some-clause-shelved c =
    let o : own_name c.args.class.now.file ≡ Some c.in-Some.name.now = let a = c.in-Some.ensures in let b = c.file.ensures in let d = c.get.ensures in cc in
    let s : c.set.result ≡ c.args.class.now.set = let a = c.set.ensures in let b = c.get-in-Some.ensures in cc in
    on_done c.put_on.result c.put_on.ensures.ok
    (λ p. stands_put (record { files = all_files c.self.inside.sources c.self.inside.sets; shelves = c.put_on.new.shelves.items }) c.args.class.now c.in-Some.name.now c.set.result c.in_ok-share-in-Some.field-0 c.self.inside.shelves.items o s p)

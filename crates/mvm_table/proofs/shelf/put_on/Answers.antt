use Rattle.std.proofs.Common.{sym, ◌∙◌}
use Rattle.mvm_table.proofs.Shelving.{on_done, back_on, shelf_at}
use Rattle.mvm_table.proofs.shelf.put_on.Goals as goal

pub returns-clause-back : goal.returns-clause-back
returns-clause-back c =
    on_done c.put.result c.put.ensures.back
    (λ t. λ n. back_on c.args.shelves.now.items c.args.set c.args.name.now c.index_mut.result.now c.put.new.self c.requires
    (c.index_mut.ensures.value ∙ sym (shelf_at c.args.shelves.now.items c.args.set c.index_mut.result.now c.requires)) t n)

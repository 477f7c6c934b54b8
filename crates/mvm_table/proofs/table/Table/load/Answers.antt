use Rattle.std.proofs.Common.{◌++◌, ◌∷◌, [], List, None, ◌∙◌, ap, sym, subst}
use Rattle.mvm_table.specs.Files.{files_in}
use Rattle.mvm_table.specs.NameMap.{Puts}
use Rattle.mvm_table.specs.Begun.{IsLoading}
use Rattle.mvm_table.specs.Cost.{to_read}
use Rattle.mvm_table.specs.declared.begun.Begun.{Begun}
use Rattle.mvm_table.proofs.Starting.{no_path, no_file, begins}
use Rattle.mvm_table.proofs.Costs.{first_weighs, first_reads, first_among, all_read, most_read}
use Rattle.mvm_table.proofs.table.Table.load.Goals as goal

pub returns-in-Err-clause-answer : goal.returns-in-Err-clause-answer
returns-in-Err-clause-answer g c =
    λ k. sym (no_path c.args.self.now.files c.args.set c.args.name.now) ∙ no_file c.args.set (files_in c.args.set c.args.self.now.files) c.args.name.now c.in-Err.fault c.in-Err.ensures.answer k

pub run-requires : goal.run-requires
run-requires g c =
    let a = c.args in
    let files = files_in a.set a.self.now.files in
    subst (λ (begun : List Begun). IsLoading a.set files a.name.now begun c.put.new.self)
    (sym (c.in_ok-push.ensures.items ∙ ap (λ (begun : List Begun). begun ++ c.in-Ok.new ∷ []) c.new-begun.ensures.items))
    (begins a.set files a.name.now c.in-Ok.new c.put.new.self c.in-Ok.ensures.answer (subst (λ old. Puts old a.name.now None c.put.new.self) c.new-met.ensures c.in_ok-put.ensures.ok))

pub returns-in-Err-clause-reads : goal.returns-in-Err-clause-reads
returns-in-Err-clause-reads g c = λ off names w i.
    let a = c.args in
    first_weighs (files_in a.set a.self.now.files) (to_read a.self.now a.set) a.name.now names w i a.steps.now _ (most_read a.self.now a.set a.name.now off a.steps.now _ c.in-Err.ensures.most)

pub returns-clause-reads : goal.returns-clause-reads
returns-clause-reads g c = λ off names w i.
    let a = c.args in
    let files = files_in a.set a.self.now.files in
    let weight = to_read a.self.now a.set in
    let p = subst (λ old. Puts old a.name.now None c.put.new.self) c.new-met.ensures c.in_ok-put.ensures.ok in
    first_reads files weight a.name.now names w i c.put.new.self a.steps.now _ _ p (all_read a.self.now a.set a.name.now off a.steps.now _ c.in-Ok.ensures.steps)
    (c.run.ensures.reads names w (first_among files weight a.name.now names w i c.put.new.self p))

pub returns-in_err-put-clause-reads : goal.returns-in_err-put-clause-reads
returns-in_err-put-clause-reads g c = λ off names w i.
    let a = c.args in
    first_weighs (files_in a.set a.self.now.files) (to_read a.self.now a.set) a.name.now names w i a.steps.now _ (most_read a.self.now a.set a.name.now off a.steps.now _ c.begin.ensures.most)

pub returns-in_err-push-clause-reads : goal.returns-in_err-push-clause-reads
returns-in_err-push-clause-reads g c = λ off names w i.
    let a = c.args in
    first_weighs (files_in a.set a.self.now.files) (to_read a.self.now a.set) a.name.now names w i a.steps.now _ (most_read a.self.now a.set a.name.now off a.steps.now _ c.begin.ensures.most)

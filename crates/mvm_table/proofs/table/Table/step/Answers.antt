use Rattle.std.proofs.Common.{rules, arith, ◌≤◌, ◌+◌, refl, subst, ◌∙◌, ap, sym, Some, ℕ, List, Option}
use Rattle.std.specs.Borrow.{Bor}
use Rattle.std.specs.Option.{option_copied}
use Rattle.mvm_table.specs.Files.{files_in}
use Rattle.std.proofs.lemmas.Grind.{common_steps}
use Rattle.mvm_table.specs.Begun.{Known}
use Rattle.mvm_table.specs.Cost.{left, to_read}
use Rattle.mvm_table.proofs.Stepping.{closes, skips, serves, refuses, waits, fails, opens}
use Rattle.mvm_table.proofs.Costs.{closes_reads, opens_reads, super_reads, all_read, most_read}
use Rattle.mvm_table.proofs.table.Table.step.Goals as goal

pub returns-in_ok-close-in-None-clause-goes : goal.returns-in_ok-close-in-None-clause-goes
returns-in_ok-close-in-None-clause-goes g c =
    let a = c.args in
    closes a.set (files_in a.set a.self.now.files) a.root.now a.begun.now.items a.top a.met.now c.requires c.in_ok-close-in-None.field-0 c.close.new.met c.in-None.ensures.value c.in_ok-close-in-None.ensures

abbrev copied : Option (Bor (List ℕ)) → Option (Option (List ℕ))
copied found = Some (option_copied found)

pub returns-in_ok-put_back-in-Some-None-clause-goes : goal.returns-in_ok-put_back-in-Some-None-clause-goes
returns-in_ok-put_back-in-Some-None-clause-goes g c =
    let a = c.args in
    skips a.set (files_in a.set a.self.now.files) a.root.now a.begun.now.items a.top a.met.now c.requires c.put_back.new.begun.items (ap copied (sym c.in-Some-None.field-0-is) ∙ c.in-Some-None.ensures.value) c.in_ok-put_back-in-Some-None.ensures

pub returns-in_ok-put_back-in-Ok-clause-goes : goal.returns-in_ok-put_back-in-Ok-clause-goes
returns-in_ok-put_back-in-Ok-clause-goes g c =
    let a = c.args in
    let files = files_in a.set a.self.now.files in
    serves a.set files a.root.now a.begun.now.items a.top a.met.now c.requires c.in-Some-Some.name.now (ap copied (sym c.in-Some-Some.field-0-is) ∙ c.in-Some-Some.ensures.value) c.in-Ready.class c.put_back-in-Ok.new.begun.items
    (subst (Known a.set files a.met.now c.in-Some-Some.name.now) c.in-Ready.is c.in_ok-class-in-Some-Some.ensures.known)
    c.in-Ok.ensures c.in_ok-put_back-in-Ok.ensures

pub returns-in-Err-clause-goes : goal.returns-in-Err-clause-goes
returns-in-Err-clause-goes g c =
    let a = c.args in
    let files = files_in a.set a.self.now.files in
    refuses a.set files a.root.now a.begun.now.items a.top a.met.now c.requires c.in-Some-Some.name.now (ap copied (sym c.in-Some-Some.field-0-is) ∙ c.in-Some-Some.ensures.value) c.in-Ready.class c.in-Err.fault
    (subst (Known a.set files a.met.now c.in-Some-Some.name.now) c.in-Ready.is c.in_ok-class-in-Some-Some.ensures.known)
    c.in-Err.ensures

pub returns-in-Waiting-clause-goes : goal.returns-in-Waiting-clause-goes
returns-in-Waiting-clause-goes g c =
    let a = c.args in
    let files = files_in a.set a.self.now.files in
    waits a.set files a.root.now a.begun.now.items a.top a.met.now c.requires c.in-Some-Some.name.now (ap copied (sym c.in-Some-Some.field-0-is) ∙ c.in-Some-Some.ensures.value)
    (subst (Known a.set files a.met.now c.in-Some-Some.name.now) c.in-Waiting.is c.in_ok-class-in-Some-Some.ensures.known)

pub returns-in_ok-descend-in-Ok-begin-clause-goes : goal.returns-in_ok-descend-in-Ok-begin-clause-goes
returns-in_ok-descend-in-Ok-begin-clause-goes g c =
    let a = c.args in
    let files = files_in a.set a.self.now.files in
    opens a.set files a.root.now a.begun.now.items a.top a.met.now c.requires c.in-Some-Some.name.now (ap copied (sym c.in-Some-Some.field-0-is) ∙ c.in-Some-Some.ensures.value) c.in-Ok-begin.new c.descend.new.begun.items c.descend.new.met
    c.in-Ok-begin.ensures.answer
    (subst (Known a.set files a.met.now c.in-Some-Some.name.now) c.in-New.is c.in_ok-class-in-Some-Some.ensures.known)
    c.in_ok-descend-in-Ok-begin.ensures.begun c.in_ok-descend-in-Ok-begin.ensures.met

pub returns-in-Err-begin-clause-goes : goal.returns-in-Err-begin-clause-goes
returns-in-Err-begin-clause-goes g c =
    let a = c.args in
    let files = files_in a.set a.self.now.files in
    fails a.set files a.root.now a.begun.now.items a.top a.met.now c.requires c.in-Some-Some.name.now (ap copied (sym c.in-Some-Some.field-0-is) ∙ c.in-Some-Some.ensures.value) c.in-Err-begin.fault c.in-Err-begin.ensures.answer

-- ---- what is read

pub returns-in_ok-close-in-None-clause-reads : goal.returns-in_ok-close-in-None-clause-reads
returns-in_ok-close-in-None-clause-reads g c = λ names w m.
    let a = c.args in
    closes_reads a.set (files_in a.set a.self.now.files) a.root.now a.begun.now.items a.top a.met.now c.requires (to_read a.self.now a.set) names w m c.in_ok-close-in-None.field-0 _ c.close.new.met a.steps.now a.steps.now refl c.in_ok-close-in-None.ensures

pub returns-in_ok-put_back-in-Some-None-clause-reads : goal.returns-in_ok-put_back-in-Some-None-clause-reads
returns-in_ok-put_back-in-Some-None-clause-reads g c = λ names w m. (m, refl)

pub returns-in_ok-put_back-in-Ok-clause-reads : goal.returns-in_ok-put_back-in-Ok-clause-reads
returns-in_ok-put_back-in-Ok-clause-reads g c = λ names w m. (m, refl)

pub returns-in_ok-descend-in-Ok-begin-clause-reads : goal.returns-in_ok-descend-in-Ok-begin-clause-reads
returns-in_ok-descend-in-Ok-begin-clause-reads g c = λ names w m.
    let a = c.args in
    let files = files_in a.set a.self.now.files in
    opens_reads a.set files a.root.now a.begun.now.items a.top a.met.now c.requires (to_read a.self.now a.set) names w m c.in-Some-Some.name.now (ap copied (sym c.in-Some-Some.field-0-is) ∙ c.in-Some-Some.ensures.value)
    (subst (Known a.set files a.met.now c.in-Some-Some.name.now) c.in-New.is c.in_ok-class-in-Some-Some.ensures.known)
    c.in-Ok-begin.new c.descend.new.met a.steps.now _ c.in-Ok-begin.ensures.answer c.in_ok-descend-in-Ok-begin.ensures.met (all_read a.self.now a.set c.in-Some-Some.name.now (c.in_ok-class-in-Some-Some.ensures.new c.in-New.is) a.steps.now _ c.in-Ok-begin.ensures.steps)

pub returns-in-Err-begin-clause-reads : goal.returns-in-Err-begin-clause-reads
returns-in-Err-begin-clause-reads g c = λ names w m.
    let a = c.args in
    let files = files_in a.set a.self.now.files in
    super_reads a.set files a.root.now a.begun.now.items a.top a.met.now c.requires (to_read a.self.now a.set) names w m c.in-Some-Some.name.now (ap copied (sym c.in-Some-Some.field-0-is) ∙ c.in-Some-Some.ensures.value)
    (subst (Known a.set files a.met.now c.in-Some-Some.name.now) c.in-New.is c.in_ok-class-in-Some-Some.ensures.known)
    a.steps.now _ (most_read a.self.now a.set c.in-Some-Some.name.now (c.in_ok-class-in-Some-Some.ensures.new c.in-New.is) a.steps.now _ c.in-Err-begin.ensures.most)

pub returns-in_err-descend-in-Ok-begin-clause-reads : goal.returns-in_err-descend-in-Ok-begin-clause-reads
returns-in_err-descend-in-Ok-begin-clause-reads g c = λ names w m.
    let a = c.args in
    let files = files_in a.set a.self.now.files in
    let k : c.begin.new.steps ≤ a.steps.now + left (to_read a.self.now a.set) a.met.now names =
    super_reads a.set files a.root.now a.begun.now.items a.top a.met.now c.requires (to_read a.self.now a.set) names w m c.in-Some-Some.name.now (ap copied (sym c.in-Some-Some.field-0-is) ∙ c.in-Some-Some.ensures.value)
    (subst (Known a.set files a.met.now c.in-Some-Some.name.now) c.in-New.is c.in_ok-class-in-Some-Some.ensures.known)
    a.steps.now c.begin.new.steps (most_read a.self.now a.set c.in-Some-Some.name.now (c.in_ok-class-in-Some-Some.ensures.new c.in-New.is) a.steps.now c.begin.new.steps c.begin.ensures.most) in
    first_of (search (rules, k), grind (arith, common_steps, k))

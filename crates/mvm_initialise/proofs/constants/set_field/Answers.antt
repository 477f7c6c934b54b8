use Rattle.std.proofs.Common.{◌≡◌, ◌∙◌, List, ℕ, Ok, true, sym, ap, subst, arith}
use Rattle.mvm_layout.specs.Flags.{is_static}
use Rattle.mvm_layout.specs.Pool.{entry, text}
use Rattle.mvm_layout.specs.declared.parts.Parts.{Parts}
use Rattle.mvm_isolate.specs.Initialise.{constant, constant_set}
use Rattle.mvm_isolate.specs.Isolate.{Isolate}
use Rattle.mvm_isolate.specs.Numbered.{name_at, named}
use Rattle.mvm_initialise.proofs.Setting.{field_is_set, name_stays}
use Rattle.mvm_initialise.proofs.constants.set_field.Goals as goal

pub returns-clause-does : goal.returns-clause-does
returns-clause-does c =
    let name : name_at c.constant-value.new.isolate c.args.mirror ≡ name_at c.args.isolate.now c.args.mirror =
    name_stays c.args.isolate.now c.constant-value.new.isolate c.args.mirror c.args.class.now c.requires.class c.constant-value.ensures.grows in
    let static : is_static c.args.field.now.flags ≡ true = grind (arith, c.is_static.ensures, c.if-not-is_static.false) in
    let value : constant c.args.class.now.file.pool (entry c.args.class.now.file.pool c.in-Some.index) (named c.args.isolate.now) ≡ Ok (c.constant-value.result, named c.constant-value.new.isolate) =
    subst (λ (p : Parts). constant p.pool (entry p.pool c.in-Some.index) (named c.args.isolate.now) ≡ Ok (c.constant-value.result, named c.constant-value.new.isolate)) (c.parts.ensures.value ∙ c.file.ensures) c.constant-value.ensures.does in
    field_is_set (name_at c.args.isolate.now c.args.mirror) c.args.class.now.file c.args.field.now c.in-Some.index c.constant-value.result (named c.args.isolate.now) (named c.constant-value.new.isolate) static c.in-Some.is value
    ∙ ap (λ (s : Isolate). Ok s)
    (ap (λ (n : List ℕ). constant_set n (text c.args.class.now.file.pool c.args.field.now.name) (text c.args.class.now.file.pool c.args.field.now.desc) (c.constant-value.result, named c.constant-value.new.isolate)) (sym name)
    ∙ sym c.give.ensures.named)

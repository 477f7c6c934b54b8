use Rattle.std.proofs.Common.{◌≡◌, ◌∷◌, ◌++◌, [], List, None, ap, ◌∙◌, arith}
use Rattle.mvm_base.specs.declared.descriptor.FieldShape.{FieldShape}
use Rattle.mvm_mirror.specs.Arrays.{number_of}
use Rattle.mvm_mirror.specs.declared.arrays.ArrayRow.{ArrayRow}
use Rattle.mvm_mirror.proofs.ArrayRows.{kept_push, made, number_added, objects_push}
use Rattle.mvm_mirror.proofs.arrays.Arrays.put.Goals as goal

pub invariant_of-self-2 : goal.invariant_of-self-2
invariant_of-self-2 c =
    let is : c.push.new.self.items ≡ c.self.inside.rows.items ++ made c.args.shape.now ∷ [] =
    c.in-Ok.ensures.items ∙ ap (λ (l : List ArrayRow). l ++ made c.in_ok-copy_shape.field-0 ∷ []) c.in_ok-reserve.ensures.items
    ∙ ap (λ (s : FieldShape). c.self.inside.rows.items ++ made s ∷ []) c.in_ok-copy_shape.ensures in
    let new : number_of c.args.shape.now c.self.inside.rows.items ≡ None = rw c.self.view_is c.requires in
    kept_push c.self.inside.numbers c.insert.new.self c.self.inside.rows.items c.push.new.self.items c.args.shape.now c.len-count.result c.self.invariant new is
    (omega (arith, c.len-count.ensures, c.self.inside.rows.ok.0))
    (omega (arith, c.len-count.ensures, c.self.inside.rows.ok.0, c.if-count-ge-MOST_ARRAYS.false))
    c.in_ok-insert.ensures.ok c.in_ok-insert.ensures.sound

pub returns-clause-number : goal.returns-clause-number
returns-clause-number c =
    let is : c.push.new.self.items ≡ c.self.inside.rows.items ++ made c.args.shape.now ∷ [] =
    c.in-Ok.ensures.items ∙ ap (λ (l : List ArrayRow). l ++ made c.in_ok-copy_shape.field-0 ∷ []) c.in_ok-reserve.ensures.items
    ∙ ap (λ (s : FieldShape). c.self.inside.rows.items ++ made s ∷ []) c.in_ok-copy_shape.ensures in
    let new : number_of c.args.shape.now c.self.inside.rows.items ≡ None = rw c.self.view_is c.requires in
    number_added c.self.inside.rows.items c.push.new.self.items c.args.shape.now c.len-count.result new is (omega (arith, c.len-count.ensures, c.self.inside.rows.ok.0))

pub returns-clause-objects : goal.returns-clause-objects
returns-clause-objects c =
    let is : c.push.new.self.items ≡ c.self.inside.rows.items ++ made c.args.shape.now ∷ [] =
    c.in-Ok.ensures.items ∙ ap (λ (l : List ArrayRow). l ++ made c.in_ok-copy_shape.field-0 ∷ []) c.in_ok-reserve.ensures.items
    ∙ ap (λ (s : FieldShape). c.self.inside.rows.items ++ made s ∷ []) c.in_ok-copy_shape.ensures in
    rw (← c.self.view_is) (objects_push c.self.inside.rows.items c.push.new.self.items c.args.shape.now is)

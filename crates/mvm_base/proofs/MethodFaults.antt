-- What the fault of a method descriptor says of all method descriptors.
use Rattle.std.proofs.Common.{◌≡◌, ℕ, zero, suc, ◌+◌, ◌≤◌, Bool, true, false, ◌==◌, cond, List, [], ◌∷◌, ◌++◌, length, drop, replicate, flat_map, All, IfSome, Option, Some, None, Result, Ok, Err, refl, sym, ap, subst, ◌∙◌, append_assoc, append-nil, length-append, arith}
use Rattle.std.proofs.lemmas.Bool.Decides.{nat_tests}
use Rattle.std.proofs.lemmas.List.Elements.{All-nil, All-cons}
use Rattle.mvm_base.specs.Place.{Place}
use Rattle.mvm_base.specs.Answers.{◌>>=◌}
use Rattle.mvm_base.specs.Descriptor.{spelled_base, spelled_field, spelled_result, spelled_method, IsField, IsMethod, field_in, ended, is_next, with_field, params_in, some_field, result_in, after_params, method_in, method_of}
use Rattle.mvm_base.specs.DescriptorFaults.{IsMethodText, IsBeginning, HasFault}
use Rattle.mvm_base.specs.declared.descriptor.FieldShape.{FieldShape}
use Rattle.mvm_base.specs.declared.descriptor.MethodShape.{MethodShape}
use Rattle.mvm_base.specs.declared.descriptor.DescFault.{DescFault}
use Rattle.mvm_base.specs.declared.descriptor.DescFault.TheVariants.{Empty, BadLetter, Open, Trailing}
use Rattle.mvm_base.proofs.Descriptors.{field_again, some_letters}
use Rattle.mvm_base.proofs.Methods.{field_begins, field_front, params_take, params_again, result_takes, result_front}
use Rattle.mvm_base.proofs.Told.{Told, AtEnd, lifted, told_fault}
use Rattle.mvm_base.proofs.FieldFaults.{FieldFrom, FieldRefuses, field_told, field_text}

-- ---- a field, with anything behind it

record Again (at : ℕ) (field : FieldShape) (t : List ℕ) : Type 0 where
  reads : field_in 0 at (spelled_field field ++ t) ≡ Ok (field, record { at = at + length (spelled_field field); rest = t })
  no_bracket : is_next 41 (spelled_field field ++ t) ≡ false

abbrev pub read_as : {A : Type 0} → A → List ℕ → ℕ → Result (A × Place) DescFault
read_as x t at = Ok (x, record { at = at; rest = t })

again : (at : ℕ) (field : FieldShape) (t : List ℕ) → IsField field → Again at field t
again at field t fits =
    let s = field_again field.dims 0 field.dims at field.base t (omega arith) fits.0 fits.1 in
    let e : spelled_field field ++ t ≡ replicate field.dims 91 ++ (spelled_base field.base ++ t) = append_assoc (replicate field.dims 91) (spelled_base field.base) t in
    let n : length (spelled_field field ++ t) ≡ length (spelled_field field) + length t = length-append (spelled_field field) t in
    let l = ap length e in
    let p : s.at ≡ at + length (spelled_field field) = omega (arith, s.place, n, l) in
    record {
      reads = ap (λ (u : List ℕ). field_in 0 at u) e ∙ s.is ∙ ap (λ (k : ℕ). read_as field t k) p;
      no_bracket = ap (λ (u : List ℕ). is_next 41 u) e ∙ (field_begins field.dims field.base t).no_bracket;
    }

field_place : (at : ℕ) (text : List ℕ) (x : FieldShape × Place) → field_in 0 at text ≡ Ok x → x.1.at ≡ at + length (spelled_field x.0)
field_place at text x e =
    let f = field_front at text x e in
    let a = (again at x.0 x.1.rest f.fits).reads in
    let b : field_in 0 at text ≡ read_as x.0 x.1.rest (at + length (spelled_field x.0)) = ap (λ (u : List ℕ). field_in 0 at u) f.front ∙ a in
    let k : x ≡ (x.0, record { at = at + length (spelled_field x.0); rest = x.1.rest }) = cc in
    ap (λ (z : FieldShape × Place). z.1.at) k

-- ---- parameters

record ParamsText (text : List ℕ) : Type 0 where
  params : List FieldShape
  fits : All IsField params
  is : text ≡ flat_map spelled_field params ++ 41 ∷ []

abbrev ParamsRefuse : ℕ → DescFault → List ℕ → Type 0
ParamsRefuse at fault text = (most : ℕ) → length text ≤ most → params_in most at text ≡ Err fault

begins_params : IsBeginning ParamsText []
begins_params = record { more = 41 ∷ []; goes_on = record { params = []; fits = All-nil IsField; is = refl } }

one_param : (t : List ℕ) → FieldFrom 0 t → IsBeginning ParamsText ([] ++ t)
one_param t w =
    let f = field_text t w in
    record { more = 41 ∷ []; goes_on = record { params = f.field ∷ []; fits = All-cons IsField f.field [] f.fits (All-nil IsField); is = ap (λ (z : List ℕ). z ++ 41 ∷ []) (f.is ∙ sym (append-nil (spelled_field f.field))) } }

no_param : (most at : ℕ) (t : List ℕ) (fault : DescFault) → is_next 41 t ≡ false → field_in 0 at t ≡ Err fault → length t ≤ most → params_in most at t ≡ Err fault
no_param zero at [] fault n e l = let k : fault ≡ Open = cc in rw k refl
no_param zero at (x ∷ t) fault n e l = absurd (omega arith)
no_param (suc most) at t fault n e l = rw (n, e) refl

params_after : (most at : ℕ) (t : List ℕ) (field : FieldShape) (q : Place) (fault : DescFault) → is_next 41 t ≡ false → field_in 0 at t ≡ Ok (field, q) → params_in most q.at q.rest ≡ Err fault → params_in (suc most) at t ≡ Err fault
params_after most at t field q fault n f h = rw (n, f, h) refl

with_field_err : (field : FieldShape) (r : Result (List FieldShape × Place) DescFault) (fault : DescFault) → with_field field r ≡ Err fault → r ≡ Err fault
with_field_err field (Ok x) fault e = absurd cc
with_field_err field (Err f) fault e = e

more_params : (field : FieldShape) → IsField field → (t : List ℕ) → ParamsText t → IsBeginning ParamsText (spelled_field field ++ t)
more_params field fits t w = record {
  more = [];
  goes_on = record {
    params = field ∷ w.params;
    fits = All-cons IsField field w.params fits w.fits;
    is = append-nil (spelled_field field ++ t) ∙ ap (λ (z : List ℕ). spelled_field field ++ z) w.is ∙ sym (append_assoc (spelled_field field) (flat_map spelled_field w.params) (41 ∷ []));
  };
}

more_refuse : (at : ℕ) (field : FieldShape) (next : ℕ) (fault : DescFault) → IsField field → next ≡ at + length (spelled_field field) → (t : List ℕ) → ParamsRefuse next fault t → ParamsRefuse at fault (spelled_field field ++ t)
more_refuse at field next fault fits e t r zero few = absurd (omega (arith, few, length-append (spelled_field field) t, some_letters field))
more_refuse at field next fault fits e t r (suc most) few =
    let a = again at field t fits in
    let l : length t ≤ most = omega (arith, few, length-append (spelled_field field) t, some_letters field) in
    params_after most at (spelled_field field ++ t) field _ fault a.no_bracket a.reads (subst (λ (k : ℕ). params_in most k t ≡ Err fault) e (r most l))

params_told : (most at : ℕ) (text : List ℕ) (fault : DescFault) → length text ≤ most → params_in most at text ≡ Err fault → Told ParamsText (ParamsRefuse at fault) at text fault
params_told zero at [] fault l e = let k : fault ≡ Open = cc in AtEnd k begins_params
params_told zero at (x ∷ text) fault l e = absurd (omega arith)
params_told (suc most) at text fault l e = by (is_next 41 text) refl (field_in 0 at text) refl e (λ q m h. params_told most q.at q.rest fault m h)
  where
    by : (b : Bool) → is_next 41 text ≡ b → (r : Result (FieldShape × Place) DescFault) → field_in 0 at text ≡ r → cond b (Ok ([], record { at = at + 1; rest = drop 1 text })) (r >>= (λ z. with_field z.0 (params_in most z.1.at z.1.rest))) ≡ Err fault → ((q : Place) → length q.rest ≤ most → params_in most q.at q.rest ≡ Err fault → Told ParamsText (ParamsRefuse q.at fault) q.at q.rest fault) → Told ParamsText (ParamsRefuse at fault) at text fault
    by true n r h k all = absurd cc
    by false n (Err f) h k all =
        let g : f ≡ fault = cc in
        let e : field_in 0 at text ≡ Err fault = rw (h, g) refl in
        lifted (FieldFrom 0) ParamsText (FieldRefuses 0 at fault) (ParamsRefuse at fault) [] text at at fault (omega arith) one_param (λ t same r most few. no_param most at t fault (same 41 ∙ n) r few) (field_told 0 at text fault (omega arith) e)
    by false n (Ok y) h k all =
        let f = field_front at text y h in
        let p = field_place at text y h in
        let m : length text ≡ length (spelled_field y.0) + length y.1.rest = ap length f.front ∙ length-append (spelled_field y.0) y.1.rest in
        let few : length y.1.rest ≤ most = omega (arith, l, m, some_letters y.0) in
        let told = all y.1 few (with_field_err y.0 (params_in most y.1.at y.1.rest) fault k) in
        subst (λ (t : List ℕ). Told ParamsText (ParamsRefuse at fault) at t fault) (sym f.front) (lifted ParamsText ParamsText (ParamsRefuse y.1.at fault) (ParamsRefuse at fault) (spelled_field y.0) y.1.rest y.1.at at fault p (more_params y.0 f.fits) (λ t same r. more_refuse at y.0 y.1.at fault f.fits p t r) told)

-- ---- parameters and their bracket, with anything behind them

abbrev bracketed : List FieldShape → List ℕ
bracketed params = flat_map spelled_field params ++ 41 ∷ []

params_reads : (params : List FieldShape) (at : ℕ) (t : List ℕ) → All IsField params → (most : ℕ) → length (bracketed params ++ t) ≤ most → params_in most at (bracketed params ++ t) ≡ read_as params t (at + length (bracketed params))
params_reads params at t fits most few =
    let e : bracketed params ++ t ≡ flat_map spelled_field params ++ 41 ∷ t = append_assoc (flat_map spelled_field params) (41 ∷ []) t in
    let l : length (bracketed params ++ t) ≡ length (flat_map spelled_field params ++ 41 ∷ t) = ap length e in
    let s = params_again params most at t fits (omega (arith, few, l)) in
    let m = length-append (bracketed params) t in
    let p : s.at ≡ at + length (bracketed params) = omega (arith, s.place, l, m) in
    ap (λ (u : List ℕ). params_in most at u) e ∙ s.is ∙ ap (λ (k : ℕ). read_as params t k) p

record ParamsFront (at : ℕ) (text : List ℕ) (x : List FieldShape × Place) : Type 0 where
  fits : All IsField x.0
  front : text ≡ bracketed x.0 ++ x.1.rest
  place : x.1.at ≡ at + length (bracketed x.0)

params_front : (at : ℕ) (text : List ℕ) (x : List FieldShape × Place) → params_in (length text) at text ≡ Ok x → ParamsFront at text x
params_front at text x h =
    let t = params_take (length text) at text x h in
    let f : text ≡ bracketed x.0 ++ x.1.rest = t.front ∙ sym (append_assoc (flat_map spelled_field x.0) (41 ∷ []) x.1.rest) in
    let l = ap length f in
    let a = params_reads x.0 at x.1.rest t.fit (length text) (omega (arith, l)) in
    let b : params_in (length text) at text ≡ read_as x.0 x.1.rest (at + length (bracketed x.0)) = ap (λ (u : List ℕ). params_in (length text) at u) f ∙ a in
    let k : x ≡ (x.0, record { at = at + length (bracketed x.0); rest = x.1.rest }) = cc in
    record { fits = t.fit; front = f; place = ap (λ (z : List FieldShape × Place). z.1.at) k }

-- ---- results

record ResultText (text : List ℕ) : Type 0 where
  result : Option FieldShape
  fits : IfSome result IsField
  is : text ≡ spelled_result result

abbrev ResultRefuses : ℕ → DescFault → List ℕ → Type 0
ResultRefuses at fault text = result_in at text ≡ Err fault

some_result : (t : List ℕ) → FieldFrom 0 t → IsBeginning ResultText ([] ++ t)
some_result t w = let f = field_text t w in record { more = []; goes_on = record { result = Some f.field; fits = f.fits; is = append-nil t ∙ f.is } }

result_told : (at : ℕ) (text : List ℕ) (fault : DescFault) → result_in at text ≡ Err fault → Told ResultText (ResultRefuses at fault) at text fault
result_told at text fault e = by (is_next 86 text) refl (field_in 0 at text) refl e
  where
    refuse : is_next 86 text ≡ false → (t : List ℕ) → ((k : ℕ) → is_next k t ≡ is_next k text) → field_in 0 at t ≡ Err fault → result_in at t ≡ Err fault
    refuse n t same r = let v : is_next 86 t ≡ false = same 86 ∙ n in rw (v, r) refl

    by : (b : Bool) → is_next 86 text ≡ b → (r : Result (FieldShape × Place) DescFault) → field_in 0 at text ≡ r → cond b (Ok (None, record { at = at + 1; rest = drop 1 text })) (r >>= some_field) ≡ Err fault → Told ResultText (ResultRefuses at fault) at text fault
    by true n r h k = absurd cc
    by false n (Ok y) h k = absurd cc
    by false n (Err f) h k =
        let g : f ≡ fault = cc in
        let e : field_in 0 at text ≡ Err fault = rw (h, g) refl in
        lifted (FieldFrom 0) ResultText (FieldRefuses 0 at fault) (ResultRefuses at fault) [] text at at fault (omega arith) some_result (refuse n) (field_told 0 at text fault (omega arith) e)

-- ---- what stands behind the opening bracket

abbrev pub method_read : ℕ → List ℕ → Result (MethodShape × Place) DescFault
method_read at text = params_in (length text) at text >>= after_params

record MethodRest (text : List ℕ) : Type 0 where
  method : MethodShape
  fits : IsMethod method
  is : text ≡ flat_map spelled_field method.params ++ 41 ∷ spelled_result method.result

abbrev MethodRefuses : ℕ → DescFault → List ℕ → Type 0
MethodRefuses at fault text = method_read at text ≡ Err fault

no_result : (t : List ℕ) → ParamsText t → IsBeginning MethodRest ([] ++ t)
no_result t w = record { more = 86 ∷ []; goes_on = record { method = record { params = w.params; result = None }; fits = (w.fits, tt); is = ap (λ (z : List ℕ). z ++ 86 ∷ []) w.is ∙ append_assoc (flat_map spelled_field w.params) (41 ∷ []) (86 ∷ []) } }

with_result : (params : List FieldShape) → All IsField params → (t : List ℕ) → ResultText t → IsBeginning MethodRest (bracketed params ++ t)
with_result params fits t w = record {
  more = [];
  goes_on = record {
    method = record { params = params; result = w.result };
    fits = (fits, w.fits);
    is = append-nil (bracketed params ++ t) ∙ append_assoc (flat_map spelled_field params) (41 ∷ []) t ∙ ap (λ (z : List ℕ). flat_map spelled_field params ++ 41 ∷ z) w.is;
  };
}

params_refuse : (at : ℕ) (fault : DescFault) (t : List ℕ) → ParamsRefuse at fault t → method_read at t ≡ Err fault
params_refuse at fault t r = ap (λ (x : Result (List FieldShape × Place) DescFault). x >>= after_params) (r (length t) (omega arith))

result_refuses : (at : ℕ) (params : List FieldShape) (next : ℕ) (fault : DescFault) → All IsField params → next ≡ at + length (bracketed params) → (t : List ℕ) → result_in next t ≡ Err fault → method_read at (bracketed params ++ t) ≡ Err fault
result_refuses at params next fault fits e t r =
    let a = params_reads params at t fits (length (bracketed params ++ t)) (omega arith) in
    let h : result_in (at + length (bracketed params)) t ≡ Err fault = subst (λ (k : ℕ). result_in k t ≡ Err fault) e r in
    ap (λ (x : Result (List FieldShape × Place) DescFault). x >>= after_params) a ∙ rw h refl

abbrev refused : DescFault → Result (MethodShape × Place) DescFault
refused fault = Err fault

result_err : (params : List FieldShape) (r : Result (Option FieldShape × Place) DescFault) (fault : DescFault) → (r >>= (λ y. Ok (record { params = params; result = y.0 }, y.1))) ≡ refused fault → r ≡ Err fault
result_err params (Ok y) fault e = absurd cc
result_err params (Err f) fault e = let k : f ≡ fault = cc in rw k refl

rest_told : (at : ℕ) (text : List ℕ) (fault : DescFault) → method_read at text ≡ Err fault → Told MethodRest (MethodRefuses at fault) at text fault
rest_told at text fault e = by (params_in (length text) at text) refl e
  where
    by : (r : Result (List FieldShape × Place) DescFault) → params_in (length text) at text ≡ r → (r >>= after_params) ≡ Err fault → Told MethodRest (MethodRefuses at fault) at text fault
    by (Err f) h k =
        let g : f ≡ fault = cc in
        let e : params_in (length text) at text ≡ Err fault = rw (h, g) refl in
        lifted ParamsText MethodRest (ParamsRefuse at fault) (MethodRefuses at fault) [] text at at fault (omega arith) no_result (λ t same r. params_refuse at fault t r) (params_told (length text) at text fault (omega arith) e)
    by (Ok x) h k =
        let p = params_front at text x h in
        let r = result_told x.1.at x.1.rest fault (result_err x.0 (result_in x.1.at x.1.rest) fault k) in
        subst (λ (t : List ℕ). Told MethodRest (MethodRefuses at fault) at t fault) (sym p.front) (lifted ResultText MethodRest (ResultRefuses x.1.at fault) (MethodRefuses at fault) (bracketed x.0) x.1.rest x.1.at at fault p.place (with_result x.0 p.fits) (λ t same r. result_refuses at x.0 x.1.at fault p.fits p.place t r) r)

-- ---- whole texts

abbrev WholeRefuses : DescFault → List ℕ → Type 0
WholeRefuses fault [] = ⊥
WholeRefuses fault (letter ∷ text) = (letter ≡ 40) × (method_read 1 text ≡ Err fault)

method_text : (t : List ℕ) → MethodRest t → IsBeginning IsMethodText ((40 ∷ []) ++ t)
method_text t w = record { more = []; goes_on = record { method = w.method; fits = w.fits; is = append-nil (40 ∷ t) ∙ ap (λ (z : List ℕ). 40 ∷ z) w.is } }

abbrev pub after_bracket : MethodShape → List ℕ
after_bracket method = flat_map spelled_field method.params ++ 41 ∷ spelled_result method.result

-- a whole descriptor is read, whatever follows it
pub record MethodReads (t : List ℕ) (method : MethodShape) (more : List ℕ) : Type 0 where
  pub at : ℕ
  pub is : method_read 1 (t ++ more) ≡ read_as method more at

pub method_reads_as : (method : MethodShape) (more : List ℕ) → IsMethod method → MethodReads (after_bracket method) method more
method_reads_as method more fits =
    let t = spelled_result method.result ++ more in
    let e : after_bracket method ++ more ≡ bracketed method.params ++ t = append_assoc (flat_map spelled_field method.params) (41 ∷ spelled_result method.result) more ∙ sym (append_assoc (flat_map spelled_field method.params) (41 ∷ []) t) in
    let a = params_reads method.params 1 t fits.0 (length (bracketed method.params ++ t)) (omega arith) in
    let s = result_front (1 + length (bracketed method.params)) method.result more fits.1 in
    let k : method_read 1 (bracketed method.params ++ t) ≡ read_as method more s.at = ap (λ (x : Result (List FieldShape × Place) DescFault). x >>= after_params) a ∙ rw s.is refl in
    record { at = s.at; is = ap (λ (u : List ℕ). method_read 1 u) e ∙ k }

method_reads : (fault : DescFault) (t more : List ℕ) → IsMethodText t → WholeRefuses fault (t ++ more) → ⊥
method_reads fault t more w r =
    let k = subst (λ (u : List ℕ). WholeRefuses fault (u ++ more)) w.is r in
    let a = (method_reads_as w.method more w.fits).is in
    let e = k.1 in
    absurd cc

record MethodFront (text : List ℕ) (x : MethodShape × Place) : Type 0 where
  fits : IsMethod x.0
  front : text ≡ (flat_map spelled_field x.0.params ++ 41 ∷ spelled_result x.0.result) ++ x.1.rest

method_front : (at : ℕ) (text : List ℕ) (x : MethodShape × Place) → method_read at text ≡ Ok x → MethodFront text x
method_front at text x e = by (params_in (length text) at text) refl e
  where
    last : (p : List FieldShape × Place) (r : Result (Option FieldShape × Place) DescFault) → params_in (length text) at text ≡ Ok p → result_in p.1.at p.1.rest ≡ r → (r >>= (λ y. Ok (record { params = p.0; result = y.0 }, y.1))) ≡ Ok x → MethodFront text x
    last p (Err f) h g k = absurd cc
    last p (Ok y) h g k =
        let a = params_take (length text) at text p h in
        let b = result_takes p.1.at p.1.rest y g in
        let j : (record { params = p.0; result = y.0 }, y.1) ≡ x = cc in
        subst (λ (z : MethodShape × Place). MethodFront text z) j (record { fits = (a.fit, b.fits); front = a.front ∙ ap (λ (t : List ℕ). flat_map spelled_field p.0 ++ 41 ∷ t) b.front ∙ sym (append_assoc (flat_map spelled_field p.0) (41 ∷ spelled_result y.0) y.1.rest) })

    by : (r : Result (List FieldShape × Place) DescFault) → params_in (length text) at text ≡ r → (r >>= after_params) ≡ Ok x → MethodFront text x
    by (Ok p) h k = last p (result_in p.1.at p.1.rest) h refl k
    by (Err f) h k = absurd cc

no_bracket : (letter : ℕ) (text : List ℕ) → (letter == 40) ≡ false → HasFault IsMethodText (letter ∷ text) (BadLetter 0)
no_bracket letter text n = record {
  front = [];
  letter = letter;
  place_is = refl;
  wrong = record {
    rest = text;
    text_is = refl;
    goes_on = record { more = 40 ∷ 41 ∷ 86 ∷ []; goes_on = record { method = record { params = []; result = None }; fits = (All-nil IsField, tt); is = refl } };
    is_short = λ w. (let e = w.is in absurd cc);
    stops = λ b. (let e = b.goes_on.is in let k : letter ≡ 40 = cc in absurd (grind (arith, nat_tests)));
  };
  no_float = λ w. (let e = w.type_stands.goes_on.is in absurd cc);
}

pub method_fault : (text : List ℕ) (fault : DescFault) → method_of text ≡ Err fault → HasFault IsMethodText text fault
unfolding method_of
method_fault [] fault e = let k : fault ≡ Empty = cc in subst (λ (f : DescFault). HasFault IsMethodText [] f) (sym k) refl
method_fault (letter ∷ text) fault e =
    let z : (length (letter ∷ text) == 0) ≡ false = grind (arith, nat_tests) in
    by (letter == 40) refl (rw z at e)
  where
    at_end : (x : MethodShape × Place) (rest : List ℕ) → letter ≡ 40 → method_read 1 text ≡ Ok x → x.1.rest ≡ rest → cond (length rest == 0) (Ok x.0) (Err Trailing) ≡ Err fault → HasFault IsMethodText (letter ∷ text) fault
    at_end x [] l h r k = absurd cc
    at_end x (y ∷ rest) l h r k =
        let z : (length (y ∷ rest) == 0) ≡ false = grind (arith, nat_tests) in
        let w = rw z at k in
        let g : fault ≡ Trailing = cc in
        let f = method_front 1 text x h in
        subst (λ (f : DescFault). HasFault IsMethodText (letter ∷ text) f) (sym g) (record { front = spelled_method x.0; more = x.1.rest; text_is = rw l (ap (λ (t : List ℕ). 40 ∷ t) f.front); is_some = λ n. cc; is_whole = record { method = x.0; fits = f.fits; is = refl } })

    rest : (r : Result (MethodShape × Place) DescFault) → letter ≡ 40 → method_read 1 text ≡ r → (r >>= ended) ≡ Err fault → HasFault IsMethodText (letter ∷ text) fault
    rest (Ok x) l h k = at_end x x.1.rest l h refl k
    rest (Err f) l h k =
        let g : f ≡ fault = cc in
        let e : method_read 1 text ≡ Err fault = h ∙ rw g refl in
        let told = lifted MethodRest IsMethodText (MethodRefuses 1 fault) (WholeRefuses fault) (40 ∷ []) text 1 0 fault (omega arith) method_text (λ t same r. (refl, r)) (rest_told 1 text fault e) in
        subst (λ (n : ℕ). HasFault IsMethodText (n ∷ text) fault) (sym l) (told_fault IsMethodText (WholeRefuses fault) (40 ∷ text) fault (λ n. cc) (refl, e) (method_reads fault) told)

    by : (b : Bool) → (letter == 40) ≡ b → cond b (method_in 1 text) (Err (BadLetter 0)) ≡ Err fault → HasFault IsMethodText (letter ∷ text) fault
    by true n h = let l : letter ≡ 40 = grind (arith, nat_tests) in rest (method_read 1 text) l refl h
    by false n h = let g : fault ≡ BadLetter 0 = cc in subst (λ (f : DescFault). HasFault IsMethodText (letter ∷ text) f) (sym g) (no_bracket letter text n)

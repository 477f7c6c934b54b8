-- The handlers of a frame's key are those of the method that a look-up of its names gives.
use Rattle.std.proofs.Common.{◌≡◌, ℕ, List, [], ◌∷◌, Bool, true, false, Option, Some, None, refl, sym, ap, ◌∙◌, arith}
use Rattle.std.specs.Prelude.{◌≢◌, ◌==◌, not, ◌&&◌, if◌then◌else◌, slice_get, Result, Ok, Err}
use Rattle.mvm_base.specs.Answers.{◌>>=◌}
use Rattle.mvm_frame.specs.Parts.{StackParts, stack_with}
use Rattle.mvm_frame.specs.Parts.{Frame as KeyedFrame}
use Rattle.mvm_frame.specs.declared.key.FrameKey.{FrameKey}
use Rattle.mvm_layout.specs.declared.parts.Code.{Code}
use Rattle.mvm_layout.specs.declared.parts.Member.{Member}
use Rattle.mvm_set.specs.declared.class.Lineage.{Lineage}
use Rattle.mvm_isolate.specs.Faults.{looked_up}
use Rattle.mvm_isolate.specs.Look.{Look}
use Rattle.mvm_isolate.specs.Members.{method_in}
use Rattle.mvm_isolate.specs.Numbered.{Numbered, class_at, name_at, look_of}
use Rattle.mvm_isolate.specs.Types.{ReferenceType}
use Rattle.std.proofs.lemmas.List.Elements.{All-cons, All-nil}
use Rattle.mvm_current.specs.Code.{method_for, method_of}
use Rattle.mvm_current.specs.Frames.{Runs, method, starting, initialising, LAST}
use Rattle.mvm_current.specs.Keys.{runs_bare, runs_of, top_named, IsKey}
use Rattle.mvm_current.specs.declared.key.TheConstants.{NO_METHOD}
use Rattle.mvm_current.proofs.Entering.{stack_keys}
use Rattle.mvm_current.proofs.KeyLaws.{HasMethod, bare_runs, named_runs, method_of_key}
use Rattle.mvm_current.proofs.Methods.{Finds, key_class, key_names, method_found, never_missing}
use Rattle.mvm_throwing.specs.Throwing.{handler_in, handler_of, handler_of_code, handler_for, is_error}
use Rattle.mvm_throwing.specs.Unwinding.{wraps}
use Rattle.std.proofs.lemmas.Bool.Decides.{nat_tests}

-- a stack of this one frame
abbrev one_frame : FrameKey → ℕ → KeyedFrame
one_frame key pc = record { key = key; pc = pc; locals = []; operands = record { depth = 0; slots = [] } }

abbrev one : FrameKey → ℕ → StackParts
one key pc = stack_with (one_frame key pc ∷ []) 0 0

one_class : (one other : Lineage) (r : Option Lineage) → r ≡ Some one → r ≡ Some other → one ≡ other
one_class one other r e h = let same : Some one ≡ Some other = sym e ∙ h in cc

method_is : (n : Numbered) (key : FrameKey) (pc : ℕ) (class : Lineage) (member : Member) → key.method ≢ NO_METHOD → IsKey n key → class_at n key.mirror ≡ Some class → slice_get class.file.methods key.method ≡ Some member → Finds n key.mirror → method_for (look_of n) (runs_of n key pc) ≡ Ok member
unfolding method_of
method_is n key pc class member other is at stands found =
    method_found n (one key pc) key member refl other
    (stack_keys n (one_frame key pc ∷ []) 0 0 (All-cons (λ (f : KeyedFrame). IsKey n f.key) (one_frame key pc) [] is (All-nil (λ (f : KeyedFrame). IsKey n f.key))))
    (λ (other : Lineage) e. sym (ap (λ (c : Lineage). slice_get c.file.methods key.method) (one_class other class (class_at n key.mirror) e at) ∙ stands))
    found

handler_found : (look : Look) (class : Lineage) (member : Member) (called name desc : List ℕ) (pc : ℕ) (type : Option ReferenceType) → looked_up (look.class called) ≡ Ok class → method_in look called name desc ≡ Ok member → handler_of look called name desc pc type ≡ handler_of_code look class.file.pool type pc member.code
unfolding handler_of
handler_found look class member called name desc pc type e h = rw (e, h) refl

key_handler : (n : Numbered) (key : FrameKey) (pc : ℕ) (class : Lineage) (member : Member) (type : Option ReferenceType) → key.method ≢ NO_METHOD → IsKey n key → class_at n key.mirror ≡ Some class → slice_get class.file.methods key.method ≡ Some member → looked_up ((look_of n).class (name_at n key.mirror)) ≡ Ok class → handler_for (look_of n) (runs_of n key pc) pc type ≡ handler_of_code (look_of n) class.file.pool type pc member.code
key_handler n key pc class member type other is at stands found =
    let has = method_of_key n key other is in
    let runs : runs_of n key pc ≡ method has.names.class has.names.name has.names.desc = named_runs n key pc other has in
    let same : has.class ≡ class = one_class has.class class (class_at n key.mirror) has.at at in
    let here : slice_get has.class.file.methods key.method ≡ Some member = ap (λ (c : Lineage). slice_get c.file.methods key.method) same ∙ stands in
    let named : name_at n key.mirror ≡ has.names.class = key_class n key has (key_names n key has.class member has has.at here).class in
    let finds : Finds n key.mirror = λ (other : Lineage) e. found ∙ ap (λ (c : Lineage). Ok c) (one_class class other (class_at n key.mirror) at e) in
    let is_method : method_for (look_of n) (method has.names.class has.names.name has.names.desc) ≡ Ok member = ap (method_for (look_of n)) (sym runs) ∙ method_is n key pc class member other is at stands finds in
    ap (λ (r : Runs). handler_for (look_of n) r pc type) runs
    ∙ handler_found (look_of n) class member has.names.class has.names.name has.names.desc pc type (ap (λ (called : List ℕ). looked_up ((look_of n).class called)) (sym named) ∙ found) is_method

-- the handler among the rows of its code
pub code_handler : (n : Numbered) (key : FrameKey) (pc : ℕ) (class : Lineage) (member : Member) (type : Option ReferenceType) (code : Code) → key.method ≢ NO_METHOD → IsKey n key → class_at n key.mirror ≡ Some class → Some member ≡ slice_get class.file.methods key.method → looked_up ((look_of n).class (name_at n key.mirror)) ≡ Ok class → member.code ≡ Some code → handler_in (look_of n) class.file.pool type pc code.rows ≡ handler_for (look_of n) (runs_of n key pc) pc type
code_handler n key pc class member type code other is at stands found e =
    sym (key_handler n key pc class member type other is at (sym stands) found ∙ ap (handler_of_code (look_of n) class.file.pool type pc) e)

-- without code there is none
pub codeless_handler : (n : Numbered) (key : FrameKey) (pc : ℕ) (class : Lineage) (member : Member) (type : Option ReferenceType) → key.method ≢ NO_METHOD → IsKey n key → class_at n key.mirror ≡ Some class → Some member ≡ slice_get class.file.methods key.method → looked_up ((look_of n).class (name_at n key.mirror)) ≡ Ok class → member.code ≡ None → None ≡ handler_for (look_of n) (runs_of n key pc) pc type
codeless_handler n key pc class member type other is at stands found e =
    sym (key_handler n key pc class member type other is at (sym stands) found ∙ ap (handler_of_code (look_of n) class.file.pool type pc) e)

-- a method stands at the place of a key
pub absent_handler : (n : Numbered) (key : FrameKey) (pc : ℕ) (class : Lineage) (type : Option ReferenceType) → key.method ≢ NO_METHOD → IsKey n key → class_at n key.mirror ≡ Some class → None ≡ slice_get class.file.methods key.method → None ≡ handler_for (look_of n) (runs_of n key pc) pc type
absent_handler n key pc class type other is at stands = absurd (never_missing n key class at (sym stands) other is)

bare_handler : (look : Look) (class : List ℕ) (pc : ℕ) (type : Option ReferenceType) (start : Bool) → handler_for look (if start then starting else initialising class) pc type ≡ None
bare_handler look class pc type true = refl
bare_handler look class pc type false = refl

-- no frame without a method has a handler
pub no_handler : (n : Numbered) (key : FrameKey) (pc : ℕ) (look : Look) (type : Option ReferenceType) → key.method ≡ NO_METHOD → None ≡ handler_for look (runs_of n key pc) pc type
no_handler n key pc look type e = sym (ap (λ (r : Runs). handler_for look r pc type) (bare_runs n key pc e) ∙ bare_handler look (name_at n key.mirror) pc type (pc == 0))

-- ---- what wraps an object

-- no method does
pub method_wraps : (n : Numbered) (key : FrameKey) (pc : ℕ) (look : Look) (type : Option ReferenceType) → key.method ≢ NO_METHOD → IsKey n key → false ≡ wraps look (runs_of n key pc) pc type
method_wraps n key pc look type other is = let has = method_of_key n key other is in sym (ap (λ (r : Runs). wraps look r pc type) (named_runs n key pc other has))

bare_wraps : (look : Look) (class : List ℕ) (pc : ℕ) (type : Option ReferenceType) (start last : Bool) → (pc == LAST) ≡ last → last ≡ false → wraps look (if start then starting else initialising class) pc type ≡ false
bare_wraps look class pc type true last e f = refl
bare_wraps look class pc type false false e f = rw e refl
bare_wraps look class pc type false true e f = absurd cc

-- no frame does that is not in the stage of `<clinit>`
pub other_wraps : (n : Numbered) (key : FrameKey) (pc : ℕ) (look : Look) (type : Option ReferenceType) → key.method ≡ NO_METHOD → pc ≢ LAST → false ≡ wraps look (runs_of n key pc) pc type
other_wraps n key pc look type e h =
    sym (ap (λ (r : Runs). wraps look r pc type) (bare_runs n key pc e) ∙ bare_wraps look (name_at n key.mirror) pc type (pc == 0) (pc == LAST) refl (grind (arith, nat_tests)))

-- in that stage one does unless the object is an Error
pub last_wraps : (n : Numbered) (key : FrameKey) (pc : ℕ) (look : Look) (type : Option ReferenceType) → key.method ≡ NO_METHOD → pc ≡ LAST → not (is_error look type) ≡ wraps look (runs_of n key pc) pc type
last_wraps n key pc look type e h = sym (rw h (ap (λ (r : Runs). wraps look r 2 type) (bare_runs n key 2 e)))

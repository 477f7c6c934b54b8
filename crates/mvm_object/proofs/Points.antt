-- Where an isolate only grows, a thread is where it was; so what goes on from there goes on from where it was.
use Rattle.std.proofs.Common.{◌≡◌, ◌∙◌, ℕ, List, Option, Result, Ok, Err, refl, sym, ap, subst}
use Rattle.std.specs.Prelude.{IfErr, OnErr, map}
use Rattle.mvm_base.specs.Answers.{◌>>=◌}
use Rattle.mvm_frame.specs.Parts.{Below, Rest, StackParts}
use Rattle.mvm_history.specs.declared.launch.Launch.{Launch}
use Rattle.mvm_set.specs.declared.class.Lineage.{Lineage}
use Rattle.mvm_table.specs.Files.{File}
use Rattle.mvm_isolate.specs.Isolate.{Isolate}
use Rattle.mvm_isolate.specs.Faults.{looked_up}
use Rattle.mvm_isolate.specs.Look.{Look, look_in}
use Rattle.mvm_isolate.specs.Numbered.{Numbered, look_of, name_at, named}
use Rattle.mvm_isolate.specs.Sound.{Grows}
use Rattle.mvm_isolate.specs.declared.stop.Stop.{Stop}
use Rattle.mvm_current.specs.Frames.{Frame}
use Rattle.mvm_current.specs.Keys.{frame_named, top_named, callers_named, AreKeys, AreKeysOf}
use Rattle.mvm_current.proofs.Growth.{keys_grow, top_grows, callers_grow}
use Rattle.mvm_object.specs.Coming.{point_of, Comes, GoesOn}
use Rattle.mvm_object.specs.Going.{Point, Went, in_isolate}
use Rattle.mvm_object.specs.declared.state.ThreadState.{ThreadState}

-- ---- where a thread is

pub point_in : (old new : Numbered) (s : StackParts) → Grows old new → AreKeys old s → point_of new s ≡ in_isolate (named new) (point_of old s)
point_in old new s grows keys =
    let top : top_named new s ≡ top_named old s = top_grows old new s grows keys in
    let callers : callers_named new s ≡ callers_named old s = callers_grow old new s grows keys in
    cc

pub point_grows : (old new : Numbered) (s : StackParts) → Grows old new → AreKeys old s → named new ≡ named old → point_of new s ≡ point_of old s
point_grows old new s grows keys same =
    let top : top_named new s ≡ top_named old s = top_grows old new s grows keys in
    let callers : callers_named new s ≡ callers_named old s = callers_grow old new s grows keys in
    cc

-- below the operands of the top frame nothing has changed
pub keys_rest : (n : Numbered) (old new : StackParts) → new.rest ≡ old.rest → AreKeys n old → AreKeys n new
keys_rest n old new e keys = subst (λ (rest : Rest). AreKeysOf n rest.below) (sym e) keys

-- keys stay keys where numbers stay, and the frames do
pub keys_after : (old new : Numbered) (stack left : StackParts) → Grows old new → left.rest.below ≡ stack.rest.below → AreKeys old stack → AreKeys new left
keys_after old new stack left grows e keys = subst (λ (below : Below). AreKeysOf new below) (sym e) (keys_grow old new stack grows keys)

pub callers_rest : (n : Numbered) (old new : StackParts) → new.rest ≡ old.rest → callers_named n new ≡ callers_named n old
unfolding callers_named
callers_rest n old new e = ap (λ (rest : Rest). map (frame_named n) rest.below.callers) e

pub point_after : (old new : Numbered) (stack popped : StackParts) → Grows old new → AreKeys old stack → popped.rest ≡ stack.rest
    → point_of new popped ≡ record (point_of old stack) { isolate = named new; frame = top_named old popped }
point_after old new stack popped grows keys e =
    let there : AreKeys old popped = keys_rest old stack popped e keys in
    let top : top_named new popped ≡ top_named old popped = top_grows old new popped grows there in
    let callers : callers_named new popped ≡ callers_named old stack = callers_grow old new popped grows there ∙ callers_rest old stack popped e in
    cc

-- ---- what is looked up

pub look_grows : (old new : Numbered) → Grows old new → look_of old ≡ look_of new
look_grows old new grows =
    ap (λ (files : List (List File)). look_in files old.env.launch.set) (sym grows.files) ∙ ap (λ (launch : Launch). look_in new.files launch.set) (sym grows.launch)

-- the class of a name, that was loaded
pub found_after : (old new : Numbered) (mirror : ℕ) (name : List ℕ) (class : Lineage) → Grows old new → name_at new mirror ≡ name
    → looked_up ((look_of new).class (name_at new mirror)) ≡ Ok class → looked_up ((look_of old).class name) ≡ Ok class
found_after old new mirror name class grows e found =
    subst (λ (look : Look). looked_up (look.class name) ≡ Ok class) (sym (look_grows old new grows))
    (subst (λ (called : List ℕ). looked_up ((look_of new).class called) ≡ Ok class) e found)

-- ---- what goes on from there

pub goes_in : (f : Point → Result Went Stop) (result : Result (Unit {0}) Stop) (old mid new : Numbered) (stack left : StackParts) (object : Option ℕ)
    → Grows old mid → AreKeys old stack → GoesOn result (f (point_of mid stack)) new left object → GoesOn result (f (in_isolate (named mid) (point_of old stack))) new left object
goes_in f result old mid new stack left object grows keys goes =
    subst (λ (p : Point). GoesOn result (f p) new left object) (point_in old mid stack grows keys) goes

pub goes_at : (f : Point → Result Went Stop) (result : Result (Unit {0}) Stop) (old mid new : Numbered) (stack left : StackParts) (object : Option ℕ)
    → Grows old mid → AreKeys old stack → named mid ≡ named old → GoesOn result (f (point_of mid stack)) new left object → GoesOn result (f (point_of old stack)) new left object
goes_at f result old mid new stack left object grows keys same goes =
    subst (λ (p : Point). GoesOn result (f p) new left object) (point_grows old mid stack grows keys same) goes

pub goes_after : (f : Point → Result Went Stop) (result : Result (Unit {0}) Stop) (old mid new : Numbered) (stack popped left : StackParts) (object : Option ℕ)
    → Grows old mid → AreKeys old stack → popped.rest ≡ stack.rest → GoesOn result (f (point_of mid popped)) new left object
    → GoesOn result (f (record (point_of old stack) { isolate = named mid; frame = top_named old popped })) new left object
goes_after f result old mid new stack popped left object grows keys e goes =
    subst (λ (p : Point). GoesOn result (f p) new left object) (point_after old mid stack popped grows keys e) goes

-- one step, and what goes on from there
pub then_goes : {A : Type 0} (found : Result A Stop) (value : A) (f : A → Result Went Stop) (result : Result (Unit {0}) Stop) (new : Numbered) (left : StackParts) (object : Option ℕ)
    → found ≡ Ok value → GoesOn result (f value) new left object → GoesOn result (found >>= f) new left object
then_goes {A} found value f result new left object e goes = subst (λ (r : Result A Stop). GoesOn result (r >>= f) new left object) (sym e) goes

-- ---- where it does not go on

-- what holds where a value does not fit, holds where it is not pushed
pub on_err : (result may : Result (Unit {0}) Stop) (A : Type 0) → IfErr result (λ stop. may ≡ Err stop) → ((stop : Stop) → may ≡ Err stop → A) → OnErr result A
on_err (Ok done) may A refused kept = tt
on_err (Err stop) may A refused kept = kept stop refused

-- what fits is pushed
pub not_refused : (result may : Result (Unit {0}) Stop) (done : Unit {0}) (A : Type 0) → Ok done ≡ may → IfErr result (λ stop. may ≡ Err stop) → OnErr result A
not_refused (Ok ok) may done A fits refused = tt
not_refused (Err stop) may done A fits refused = absurd (let both : Ok done ≡ Err stop = fits ∙ refused in cc)

-- A step is its two parts, one behind the other.
use native.Mathlib.Omega.{arith}
use Rattle.std.proofs.Common.{◌≡◌, refl, sym, ◌∙◌, ap}
use Rattle.std.proofs.lemmas.Bool.Decides.{nat_tests}
use Rattle.std.specs.Prelude.{◌≢◌, ℕ, List, Bool, true, false, ◌==◌, slice_get}
use Rattle.mvm_history.specs.declared.end.End.TheVariants.{Limit}
use Rattle.mvm_history.specs.declared.end.LimitKind.TheVariants.{Steps}
use Rattle.mvm_isolate.specs.Look.{Look, look_in}
use Rattle.mvm_isolate.specs.Numbered.{look_of}
use Rattle.mvm_object.specs.Going.{After, does, starts, notifies, acts, ends_uncaught, exits, limited, Went}
use Rattle.mvm_invoke.specs.Leaving.{after_named}
use Rattle.mvm_invoke.specs.declared.left.After.{After as LeftAfter}
use Rattle.mvm_table.specs.Files.{File}
use Rattle.mvm_thread.specs.State.{State}
use Rattle.mvm_thread.specs.Step.{after_attempt, attempt_of, come_of, counted, ended_by, followed, step, step_with}
use Rattle.mvm_interp.specs.Finishing.{doing_after, finished, Attempted}
use Rattle.mvm_interp.specs.Names.{TaskParts, names}

followed_is : (i : ℕ) (w : Went) (s : State) (a : After) → followed i w s a ≡ finished i a (after_attempt i (doing_after a) w s)
unfolding followed finished
followed_is i w s (does doing) = refl
followed_is i w s (starts object) = refl
followed_is i w s (notifies object all) = refl
followed_is i w s (acts act doing) = refl
followed_is i w s (ends_uncaught object) = refl
followed_is i w s (exits status) = refl
followed_is i w s (limited kind) = refl

goes_on : (look : Look) (s : State) (i : ℕ) (over : Bool) → (s.steps == s.launch.limits.steps) ≡ over → over ≡ false → step_with look s i ≡ attempt_of look i s (slice_get s.threads i)
unfolding step_with
goes_on look s i true e f = absurd (let k : true ≡ false = f in cc)
goes_on look s i false e f = rw e refl

pub step_is : (table : List (List File)) (t mid : TaskParts) (new : State) (i : ℕ) (todo : LeftAfter) → table ≡ t.isolate.files → t.steps ≢ t.isolate.env.launch.limits.steps → Attempted t mid i todo
    → new ≡ finished i (after_named mid.isolate todo) (names mid) → new ≡ step table (names t) i
step_is table t mid new i todo files more a e =
    let s = names t in
    let look = look_of t.isolate in
    let not_yet : (s.steps == s.launch.limits.steps) ≡ false = grind (arith, nat_tests) in
    let went = a.went in
    e
    ∙ ap (λ (x : After). finished i x (names mid)) (sym a.after)
    ∙ ap (finished i went.after) a.leaves
    ∙ sym (followed_is i went (counted s) went.after)
    ∙ ap (come_of i (counted s)) (sym a.does)
    ∙ ap (attempt_of look i s) (sym a.there)
    ∙ sym (goes_on look s i _ refl not_yet)
    ∙ ap (λ (files_are : List (List File)). step_with (look_in files_are s.launch.set) s i) (sym files)

limit_by : (look : Look) (s : State) (i : ℕ) → (s.steps == s.launch.limits.steps) ≡ true → step_with look s i ≡ ended_by (Limit Steps) s
unfolding step_with
limit_by look s i e = rw e refl

pub limit_is : (table : List (List File)) (s new : State) (i : ℕ) → s.steps ≡ s.launch.limits.steps → new ≡ ended_by (Limit Steps) s → new ≡ step table s i
limit_is table s new i e f =
    let over : (s.steps == s.launch.limits.steps) ≡ true = grind (arith, nat_tests) in
    f ∙ sym (limit_by (look_in table s.launch.set) s i over)

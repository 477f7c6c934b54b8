-- Where a native method throws, or asks for its thread's object, the isolate is as it was, by names.
use Rattle.std.proofs.Common.{◌≡◌, ℕ, ◌≤◌, List, [], ◌∷◌, ◌++◌, length, drop, map, Bool, true, false, Result, Ok, Err, refl, subst, sym, ap, ◌∙◌, arith}
use Rattle.std.specs.Prelude.{if◌then◌else◌}
use Rattle.std.proofs.lemmas.List.{append-nil, drop_all, length-map}
use Rattle.mvm_base.specs.declared.value.Word.{Word}
use Rattle.mvm_builtin.specs.declared.natives.Native.{Native}
use Rattle.mvm_heap.specs.Objects.{Object}
use Rattle.mvm_history.specs.declared.launch.Launch.{Launch}
use Rattle.mvm_mirror.specs.Arrays.{shapes_of}
use Rattle.mvm_mirror.specs.Kept.{classes_of}
use Rattle.mvm_native.specs.Calls.{called}
use Rattle.mvm_native.specs.Machine.{Machine}
use Rattle.mvm_native.specs.Needs.{fits}
use Rattle.mvm_native.specs.Unclassed.{heads_of, unclassed_objects}
use Rattle.mvm_native.specs.declared.env.LinkUse.{LinkUse}
use Rattle.mvm_native.specs.declared.out.Out.{Out}
use Rattle.mvm_native.specs.declared.out.Out.TheVariants as out
use Rattle.mvm_native.specs.declared.out.Thrown.{Thrown}
use Rattle.mvm_native.specs.declared.out.Thrown.TheVariants.{VerifyError}
use Rattle.mvm_native.proofs.Unclassed.{unclassed_length}
use Rattle.mvm_isolate.specs.Isolate.{Isolate, after_native, machine_in, plain_type_of, stopped, typed}
use Rattle.mvm_isolate.specs.Natives.{native_called}
use Rattle.mvm_isolate.specs.Numbered.{Numbered, named, type_of_head, types_in}
use Rattle.mvm_isolate.specs.Types.{ReferenceType}
use Rattle.mvm_isolate.specs.declared.stop.Stop.{Stop}
use Rattle.mvm_isolate.proofs.Typing.{heads_length}
use Rattle.mvm_invoke.specs.NativeCalls.{MayFail}
use Rattle.mvm_invoke.proofs.Kept.{keeps, Kept}

-- ---- an isolate whose objects all have their types

typed_same : (objects : List Object) (types : List ReferenceType) → length objects ≤ length types → typed objects types ≡ types
typed_same objects types le = ap (λ (rest : List Object). types ++ map plain_type_of rest) (drop_all (length types) objects le) ∙ append-nil types

types_length : (n : Numbered) → length (named n).types ≡ length (named n).heap.objects
unfolding named types_in
types_length n =
    length-map (heads_of n.env.heap.state.objects) (type_of_head (classes_of n.mirrors) (shapes_of n.arrays))
    ∙ heads_length n.env.heap.state.objects ∙ sym (unclassed_length n.env.heap.state.objects)

same_length : (a b : ℕ) → a ≡ b → b ≤ a
same_length a b e = omega (arith, e)

after_same : (launch : Launch) (thread : ℕ) (links : List LinkUse) (n : Numbered) → after_native (machine_in launch thread links (named n)) (named n) ≡ named n
after_same launch thread links n =
    ap (λ (types : List ReferenceType). record (named n) { types = types })
    (typed_same (named n).heap.objects (named n).types (same_length (length (named n).types) (length (named n).heap.objects) (types_length n)))

-- ---- what was answered

-- the answer, and what is left
record Answered (x : Out × Machine) (s : Isolate) (answer : Out) (new : Isolate) : Type 0 where
  pub is_answer : x.0 ≡ answer
  pub is_left : after_native x.1 s ≡ new

abbrev of_call : Out × Machine → Isolate → Result (Out × Isolate) Stop
of_call x s = Ok (x.0, after_native x.1 s)

value_in : Out × Machine → Isolate → Result (Out × Isolate) Stop → Out × Isolate
value_in x s (Ok y) = y
value_in x s (Err stop) = (x.0, after_native x.1 s)

by_fits : (b : Bool) (x : Out × Machine) (s : Isolate) (answer : Out) (new : Isolate) → (if b then of_call x s else stopped VerifyError) ≡ Ok (answer, new) → Answered x s answer new
unfolding value_in
by_fits true x s answer new e = record { is_answer = ap (λ (r : Result (Out × Isolate) Stop). (value_in x s r).0) e; is_left = ap (λ (r : Result (Out × Isolate) Stop). (value_in x s r).1) e }
by_fits false x s answer new e = absurd cc

answered : (launch : Launch) (thread : ℕ) (links : List LinkUse) (native : Native) (args : List Word) (s : Isolate) (answer : Out) (new : Isolate) → native_called launch thread links native args s ≡ Ok (answer, new)
    → Answered (called native args (machine_in launch thread links s)) s answer new
unfolding native_called
answered launch thread links native args s answer new e =
    by_fits (fits native args (machine_in launch thread links s)) (called native args (machine_in launch thread links s)) s answer new e

kept : (launch : Launch) (thread : ℕ) (links : List LinkUse) (native : Native) (args : List Word) (old : Numbered) (answer : Out) (new : Isolate) → native_called launch thread links native args (named old) ≡ Ok (answer, new)
    → ((m : Machine) → Kept answer m (machine_in launch thread links (named old)) → m ≡ machine_in launch thread links (named old)) → new ≡ named old
kept launch thread links native args old answer new e same =
    let m = machine_in launch thread links (named old) in
    let x = answered launch thread links native args (named old) answer new e in
    let k : Kept answer (called native args m).1 m = subst (λ (o : Out). Kept o (called native args m).1 m) x.is_answer (keeps native args m) in
    sym x.is_left ∙ ap (λ (y : Machine). after_native y (named old)) (same (called native args m).1 k) ∙ after_same launch thread links old

pub throw_kept : (launch : Launch) (thread : ℕ) (links : List LinkUse) (native : Native) (args : List Word) (old : Numbered) (thrown : Thrown) (new : Isolate) → native_called launch thread links native args (named old) ≡ Ok (out.Throw thrown, new) → new ≡ named old
throw_kept launch thread links native args old thrown new e = kept launch thread links native args old (out.Throw thrown) new e (λ m k. k)

pub current_kept : (launch : Launch) (thread : ℕ) (links : List LinkUse) (native : Native) (args : List Word) (old : Numbered) (new : Isolate) → native_called launch thread links native args (named old) ≡ Ok (out.Current, new) → new ≡ named old
current_kept launch thread links native args old new e = kept launch thread links native args old out.Current new e (λ m k. k)

pub fail_kept : (launch : Launch) (thread : ℕ) (links : List LinkUse) (native : Native) (args : List Word) (old : Numbered) (answer : Out) (new : Isolate) → MayFail answer
    → native_called launch thread links native args (named old) ≡ Ok (answer, new) → new ≡ named old
fail_kept launch thread links native args old (out.Throw thrown) new may e = throw_kept launch thread links native args old thrown new e
fail_kept launch thread links native args old out.Current new may e = current_kept launch thread links native args old new e
fail_kept launch thread links native args old _ new may e = absurd may

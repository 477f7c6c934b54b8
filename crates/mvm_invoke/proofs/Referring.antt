-- The class that a reference of the current frame's class names.
use Rattle.std.proofs.Common.{◌≡◌, ℕ, List, Option, Some, None, refl, sym, ap, ◌∙◌}
use Rattle.std.specs.Prelude.{◌≢◌, IfSome, Result, Ok, Err}
use Rattle.mvm_base.specs.Answers.{◌>>=◌}
use Rattle.mvm_frame.specs.Parts.{StackParts}
use Rattle.mvm_frame.specs.declared.key.FrameKey.{FrameKey}
use Rattle.mvm_layout.specs.Pool.{member}
use Rattle.mvm_set.specs.declared.class.Lineage.{Lineage}
use Rattle.mvm_isolate.specs.Faults.{looked_up}
use Rattle.mvm_isolate.specs.Look.{Look}
use Rattle.mvm_isolate.specs.Members.{or_verify}
use Rattle.mvm_isolate.specs.Numbered.{Numbered, look_of, name_at}
use Rattle.mvm_isolate.specs.declared.stop.Stop.{Stop}
use Rattle.mvm_current.specs.Keys.{top_named, AreKeys, RunsMethod}
use Rattle.mvm_current.specs.declared.key.TheConstants.{NO_METHOD}
use Rattle.mvm_current.proofs.Called.{runs_as}
use Rattle.mvm_invoke.specs.Calls.{class_of_reference, class_referred, current_class, referred}

found_so : (look : Look) (index : ℕ) (name : List ℕ) (class : Lineage) → looked_up (look.class name) ≡ Ok class → (looked_up (look.class name) >>= λ found. or_verify (class_of_reference found (member found.file.pool index))) ≡ or_verify (class_of_reference class (member class.file.pool index))
found_so look index name class e = rw e refl

pub referred_at : (n : Numbered) (s : StackParts) (index : ℕ) (key : FrameKey) (class : Lineage) → s.rest.below.key ≡ Some key → RunsMethod s → AreKeys n s → looked_up ((look_of n).class (name_at n key.mirror)) ≡ Ok class
    → referred (look_of n) index (top_named n s) ≡ or_verify (class_of_reference class (member class.file.pool index))
unfolding referred
referred_at n s index key class e runs keys found =
    let x = runs_as n s key e (rw e at runs) keys in
    ap (class_referred (look_of n) index) x.runs ∙ ap (λ (name : List ℕ). looked_up ((look_of n).class name) >>= λ found. or_verify (class_of_reference found (member found.file.pool index))) (sym x.class) ∙ found_so (look_of n) index (name_at n key.mirror) class found

pub current_at : (n : Numbered) (s : StackParts) (key : FrameKey) → s.rest.below.key ≡ Some key → RunsMethod s → AreKeys n s → current_class (top_named n s).runs ≡ Ok (name_at n key.mirror)
current_at n s key e runs keys =
    let x = runs_as n s key e (rw e at runs) keys in ap current_class x.runs ∙ ap Ok (sym x.class)

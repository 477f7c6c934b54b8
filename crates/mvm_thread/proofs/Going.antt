-- What an attempt leaves where a call told what the thread does from then on.
use Rattle.std.proofs.Common.{◌≡◌, ℕ, Option, None, Result, Ok, refl, ap, ◌∙◌}
use Rattle.std.specs.Prelude.{IsSome}
use Rattle.mvm_frame.specs.Parts.{StackParts}
use Rattle.mvm_isolate.specs.Numbered.{Numbered}
use Rattle.mvm_isolate.specs.declared.stop.Stop.{Stop}
use Rattle.mvm_object.specs.Coming.{doing_named, went_of}
use Rattle.mvm_object.specs.Going.{Context, Went, ready}
use Rattle.mvm_object.specs.declared.state.ThreadState.{ThreadState}
use Rattle.mvm_object.specs.declared.state.ThreadState.TheVariants.{Ready}
use Rattle.mvm_current.specs.Keys.{top_named}
use Rattle.mvm_invoke.specs.Leaving.{left_named}
use Rattle.mvm_invoke.specs.declared.left.After.TheVariants as left
use Rattle.mvm_invoke.specs.declared.left.Left.{Left}
use Rattle.mvm_invoke.proofs.Leaving.{left_by}
use Rattle.mvm_local.specs.declared.beyond.BeyondAt.{BeyondAt}
use Rattle.mvm_thread.specs.Groups.{GoesFurther}

abbrev as_left : Option ℕ → ThreadState → Left
as_left object state = record { object = object; after = left.Does state }

pub state_left : (c : Context) (n : Numbered) (s : StackParts) (l : Left) (object : Option ℕ) (state : ThreadState) → IsSome s.rest.below.key → c.object ≡ object → l.object ≡ object → l.after ≡ left.Does state → went_of n s c.object (doing_named n state) ≡ left_named n s l
state_left c n s l object state some o p a = left_by c n s s (top_named n s) l object (left.Does state) some refl refl o p a

pub comes_left : (c : Context) (n : Numbered) (s : StackParts) (l : Left) (object : Option ℕ) (state : ThreadState) (definition : Result Went Stop) → IsSome s.rest.below.key → c.object ≡ object → l.object ≡ object → l.after ≡ left.Does state → definition ≡ Ok (went_of n s c.object (doing_named n state)) → definition ≡ Ok (left_named n s l)
comes_left c n s l object state definition some o p a e = e ∙ ap Ok (state_left c n s l object state some o p a)

pub goes_left : (c : Context) (n : Numbered) (s : StackParts) (l : Left) (object : Option ℕ) (definition : Result Went Stop) → IsSome s.rest.below.key → c.object ≡ object → l.object ≡ object → l.after ≡ left.Does Ready → definition ≡ Ok (went_of n s c.object ready) → definition ≡ Ok (left_named n s l)
goes_left c n s l object definition some o p a e = comes_left c n s l object Ready definition some o p a e

-- the same where only the top frame changed
pub goes_below : (c : Context) (n : Numbered) (old s : StackParts) (l : Left) (object : Option ℕ) (definition : Result Went Stop) → IsSome old.rest.below.key → s.rest.below ≡ old.rest.below → c.object ≡ object → l.object ≡ object → l.after ≡ left.Does Ready → definition ≡ Ok (went_of n s c.object ready) → definition ≡ Ok (left_named n s l)
goes_below c n old s l object definition some below o p a e = goes_left c n s l object definition (rw below some) o p a e

-- the instruction touched its frame alone
pub none_goes : (c : Context) (further : Option BeyondAt) (definition : Result Went Stop) (n : Numbered) (s : StackParts) → further ≡ None → GoesFurther c (Ok further) definition n s → definition ≡ Ok (went_of n s c.object ready)
none_goes c further definition n s e goes = rw e at goes

-- The frame that waits for the current one, and the descriptor of the method that runs.
use Rattle.std.proofs.Common.{◌≡◌, ℕ, ◌+◌, ◌-◌, ◌<◌, ◌≤◌, List, [], ◌∷◌, length, true, false, Option, Some, None, refl, sym, ap, ◌∙◌, arith}
use Rattle.std.specs.Prelude.{◌≢◌, nat_le, map, slice_get, Ok}
use Rattle.std.proofs.lemmas.Bool.Decides.{nat_tests}
use Rattle.mvm_base.specs.declared.value.Kind.{Kind}
use Rattle.mvm_base.specs.declared.value.Kind.TheVariants as kind
use Rattle.mvm_frame.specs.Calls.{room_of}
use Rattle.mvm_frame.specs.Parts.{StackParts}
use Rattle.mvm_frame.specs.Parts.{Frame as KeyedFrame}
use Rattle.mvm_frame.specs.declared.key.FrameKey.{FrameKey}
use Rattle.mvm_layout.specs.declared.parts.Member.{Member}
use Rattle.mvm_layout.specs.declared.parts.Parts.{Parts}
use Rattle.mvm_member.specs.Members.{MemberName, named_in}
use Rattle.mvm_set.specs.declared.class.Lineage.{Lineage}
use Rattle.mvm_native.specs.declared.out.Thrown.TheVariants.{VerifyError}
use Rattle.mvm_isolate.specs.Isolate.{stopped}
use Rattle.mvm_isolate.specs.Numbered.{Numbered, class_at}
use Rattle.mvm_current.proofs.Called.{runs_as}
use Rattle.mvm_current.proofs.Methods.{names_of}
use Rattle.mvm_current.specs.Keys.{callers_named, frame_named, top_named, AreKeys, RunsMethod}
use Rattle.mvm_current.specs.Values.{may_push, width}
use Rattle.mvm_current.specs.declared.key.TheConstants.{NO_METHOD}
use Rattle.mvm_locking.specs.Returned.{HasRoom}
use Rattle.mvm_locking.specs.Returns.{desc_at, desc_of, may_return_to, IsRunWith}

-- ---- room

some_width : (k : Kind) → 1 ≤ width k
some_width kind.Int = omega arith
some_width kind.Ref = omega arith
some_width kind.Long = omega arith

within : (a w d room : ℕ) → 1 ≤ w → d - a ≡ room → w ≤ room → nat_le (a + w) d ≡ true
within a w d room one e h = let le : a + w ≤ d = omega arith in grind (arith, nat_tests)

beyond : (a w d room : ℕ) → d - a ≡ room → room < w → nat_le (a + w) d ≡ false
beyond a w d room e h = let lt : d < a + w = omega arith in grind (arith, nat_tests)

fits_by : (n : Numbered) (fs : List KeyedFrame) (k : Kind) (room : ℕ) → room_of fs ≡ Some room → width k ≤ room → may_return_to (Some k) (map (frame_named n) fs) ≡ Ok tt
unfolding may_push
fits_by n [] k room e h = absurd cc
fits_by n (f ∷ fs) k room e h = let r : f.operands.depth - length f.operands.slots ≡ room = cc in rw (within (length f.operands.slots) (width k) f.operands.depth room (some_width k) r h) refl

passes_by : (n : Numbered) (fs : List KeyedFrame) (k : Kind) (room : ℕ) → room_of fs ≡ Some room → room < width k → may_return_to (Some k) (map (frame_named n) fs) ≡ stopped VerifyError
unfolding may_push
passes_by n [] k room e h = absurd cc
passes_by n (f ∷ fs) k room e h = let r : f.operands.depth - length f.operands.slots ≡ room = cc in rw (beyond (length f.operands.slots) (width k) f.operands.depth room r h) refl

none_by : (n : Numbered) (fs : List KeyedFrame) (k : Option Kind) → room_of fs ≡ None → may_return_to k (map (frame_named n) fs) ≡ Ok tt
none_by n [] k e = refl
none_by n (f ∷ fs) k e = absurd cc

pub fits : (n : Numbered) (s : StackParts) (k : Kind) (room : ℕ) → room_of s.rest.below.callers ≡ Some room → width k ≤ room → may_return_to (Some k) (callers_named n s) ≡ Ok tt
unfolding callers_named
fits n s k room e h = fits_by n s.rest.below.callers k room e h

pub passes : (n : Numbered) (s : StackParts) (k : Kind) (room : ℕ) → room_of s.rest.below.callers ≡ Some room → room < width k → may_return_to (Some k) (callers_named n s) ≡ stopped VerifyError
unfolding callers_named
passes n s k room e h = passes_by n s.rest.below.callers k room e h

pub fits_some : (n : Numbered) (s : StackParts) (kind : Option Kind) (k : Kind) (room : ℕ) → kind ≡ Some k → room_of s.rest.below.callers ≡ Some room → width k ≤ room → may_return_to kind (callers_named n s) ≡ Ok tt
fits_some n s kind k room is e h = rw is (fits n s k room e h)

pub passes_some : (n : Numbered) (s : StackParts) (kind : Option Kind) (k : Kind) (room : ℕ) → kind ≡ Some k → room_of s.rest.below.callers ≡ Some room → room < width k → may_return_to kind (callers_named n s) ≡ stopped VerifyError
passes_some n s kind k room is e h = rw is (passes n s k room e h)

pub none_waits : (n : Numbered) (s : StackParts) (k : Option Kind) → room_of s.rest.below.callers ≡ None → may_return_to k (callers_named n s) ≡ Ok tt
unfolding callers_named
none_waits n s k e = none_by n s.rest.below.callers k e

-- as much room as is wanted, where a frame waits, and none where no frame waits
pub has_room : (kind : Option Kind) (waiting : Option ℕ) (k : Kind) (room : ℕ) → kind ≡ Some k → waiting ≡ Some room → width k ≤ room → HasRoom kind waiting
has_room kind waiting k room is e h = rw (is, e) h

no_frame : (kind : Option Kind) → HasRoom kind None
no_frame (Some k) = tt
no_frame None = tt

pub wants_none : (kind : Option Kind) (waiting : Option ℕ) → waiting ≡ None → HasRoom kind waiting
wants_none kind waiting e = rw e (no_frame kind)

-- ---- the descriptor

desc_by : (file : Parts) (r : Option Member) (m : MemberName) → named_in file r ≡ Some m → desc_of file r ≡ Some m.desc
desc_by file (Some member) m e = (names_of file member m e).desc
desc_by file None m e = absurd cc

-- the descriptor that stands at the place of the key of the current frame is that of the method that it runs
pub record HasDesc (n : Numbered) (s : StackParts) (key : FrameKey) (class : Lineage) : Type 0 where
  pub desc : List ℕ
  pub at : desc_at key.method class ≡ Some desc
  pub run : IsRunWith desc (top_named n s).runs

pub desc_of_top : (n : Numbered) (s : StackParts) (key : FrameKey) (class : Lineage) → s.rest.below.key ≡ Some key → RunsMethod s → AreKeys n s → class_at n key.mirror ≡ Some class → HasDesc n s key class
desc_of_top n s key class e is keys at =
    let other : key.method ≢ NO_METHOD = rw e at is in
    let x = runs_as n s key e other keys in
    let same : x.has.class ≡ class = (let both : Some x.has.class ≡ Some class = sym x.has.at ∙ at in cc) in
    let here : desc_at key.method x.has.class ≡ Some x.has.names.desc = desc_by x.has.class.file (slice_get x.has.class.file.methods key.method) x.has.names x.has.place.0 in
    record {
      desc = x.has.names.desc;
      at = ap (desc_at key.method) (sym same) ∙ here;
      run = record { class = x.has.names.class; name = x.has.names.name; is = x.runs };
    }

pub desc_is : (n : Numbered) (s : StackParts) (key : FrameKey) (class : Lineage) (desc : List ℕ) → s.rest.below.key ≡ Some key → RunsMethod s → AreKeys n s → class_at n key.mirror ≡ Some class → desc_at key.method class ≡ Some desc → IsRunWith desc (top_named n s).runs
desc_is n s key class desc e is keys at d =
    let x = desc_of_top n s key class e is keys at in
    let same : x.desc ≡ desc = (let both : Some x.desc ≡ Some desc = sym x.at ∙ d in cc) in rw (← same) x.run

-- What a stack without a frame refuses.
use Rattle.std.proofs.Common.{◌≡◌, List, Option, Some, None, refl}
use Rattle.std.specs.Prelude.{IsSome, Result, Err}
use Rattle.mvm_frame.specs.declared.key.FrameKey.{FrameKey}
use Rattle.mvm_base.specs.declared.value.Word.{Word}
use Rattle.mvm_frame.specs.declared.slot.Slot.{Slot}
use Rattle.mvm_frame.specs.declared.refused.Refused.{Refused}
use Rattle.mvm_frame.specs.Parts.{Operands, Below}
use Rattle.mvm_frame.specs.Calls.{framed, framed_by, refusal, refusal_by}

fault_by : {A : Type 0} (key : Option FrameKey) (e : Refused) → framed_by {A = A} key (Err e) ≡ Err (refusal_by key e)
fault_by None e = refl
fault_by (Some key) e = refl

ok_by : {A : Type 0} (key : Option FrameKey) (r : Result A Refused) → IsSome key → framed_by key r ≡ r
ok_by None r h = absurd cc
ok_by (Some key) r h = refl

pub framed_fault : (below : Below) (e : Refused) → framed {A = Operands} below (Err e) ≡ Err (refusal below e)
unfolding framed refusal
framed_fault below e = fault_by below.key e

pub framed_some : (below : Below) (r : Result Operands Refused) → IsSome below.key → framed below r ≡ r
unfolding framed
framed_some below r h = ok_by below.key r h

pub given_fault : (below : Below) (e : Refused) → framed {A = Word × Operands} below (Err e) ≡ Err (refusal below e)
unfolding framed refusal
given_fault below e = fault_by below.key e

pub given_some : (below : Below) (r : Result (Word × Operands) Refused) → IsSome below.key → framed below r ≡ r
unfolding framed
given_some below r h = ok_by below.key r h

pub load_fault : (below : Below) (e : Refused) → framed {A = Word} below (Err e) ≡ Err (refusal below e)
unfolding framed refusal
load_fault below e = fault_by below.key e

pub load_some : (below : Below) (r : Result Word Refused) → IsSome below.key → framed below r ≡ r
unfolding framed
load_some below r h = ok_by below.key r h

pub store_fault : (below : Below) (e : Refused) → framed {A = List Slot} below (Err e) ≡ Err (refusal below e)
unfolding framed refusal
store_fault below e = fault_by below.key e

pub store_some : (below : Below) (r : Result (List Slot) Refused) → IsSome below.key → framed below r ≡ r
unfolding framed
store_some below r h = ok_by below.key r h

pub ruleset framed_rules = (load_fault, load_some, store_fault, store_some, framed_fault, framed_some, given_fault, given_some)

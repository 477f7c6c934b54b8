-- A value may be pushed exactly where it is.
use Rattle.std.proofs.Common.{◌≡◌, ℕ, ◌+◌, ℤ, List, length, Bool, true, false, refl, ap, ◌∙◌, arith}
use Rattle.std.specs.Prelude.{nat_lt, nat_le, if◌then◌else◌, Result, Ok, Err}
use Rattle.std.proofs.lemmas.Bool.Decides.{nat_tests}
use Rattle.mvm_base.specs.Answers.{◌>>=◌}
use Rattle.mvm_base.specs.declared.value.Word.{Word}
use Rattle.mvm_base.specs.declared.value.Word.TheVariants as word
use Rattle.mvm_frame.specs.Calls.{push}
use Rattle.mvm_frame.specs.Parts.{Operands}
use Rattle.mvm_isolate.specs.Isolate.{stopped}
use Rattle.mvm_native.specs.declared.out.Thrown.TheVariants.{VerifyError}
use Rattle.mvm_frame.specs.declared.refused.Refused.TheVariants.{Overflow}
use Rattle.mvm_isolate.specs.declared.stop.Stop.{Stop}
use Rattle.mvm_current.specs.Frames.{Frame, pushed, verified, with_operands}
use Rattle.mvm_current.specs.Values.{done_of, kind_of, may_push}

-- the test of a push is that of `may_push`
same_test : (b c : Bool) (o : Operands) (f : Frame) → b ≡ c → done_of (verified (if b then Ok o else Err Overflow) >>= λ p. Ok (with_operands p f)) ≡ (if c then Ok tt else stopped VerifyError)
same_test true true o f e = refl
same_test true false o f e = absurd cc
same_test false true o f e = absurd cc
same_test false false o f e = refl

one_more : (n depth : ℕ) → nat_lt n depth ≡ nat_le (n + 1) depth
one_more n depth = grind (arith, nat_tests)

two_more : (n depth : ℕ) → nat_lt (n + 1) depth ≡ nat_le (n + 2) depth
two_more n depth = grind (arith, nat_tests)

pub push_fits : (w : Word) (f : Frame) → done_of (pushed w f) ≡ may_push (kind_of w) f
unfolding pushed may_push push
push_fits (word.Int n) f = same_test (nat_lt (length f.body.operands.slots) f.body.operands.depth) (nat_le (length f.body.operands.slots + 1) f.body.operands.depth) _ f (one_more (length f.body.operands.slots) f.body.operands.depth)
push_fits (word.Long n) f = same_test (nat_lt (length f.body.operands.slots + 1) f.body.operands.depth) (nat_le (length f.body.operands.slots + 2) f.body.operands.depth) _ f (two_more (length f.body.operands.slots) f.body.operands.depth)
push_fits (word.Ref n) f = same_test (nat_lt (length f.body.operands.slots) f.body.operands.depth) (nat_le (length f.body.operands.slots + 1) f.body.operands.depth) _ f (one_more (length f.body.operands.slots) f.body.operands.depth)
push_fits word.Null f = same_test (nat_lt (length f.body.operands.slots) f.body.operands.depth) (nat_le (length f.body.operands.slots + 1) f.body.operands.depth) _ f (one_more (length f.body.operands.slots) f.body.operands.depth)

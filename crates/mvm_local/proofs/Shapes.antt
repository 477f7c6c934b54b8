-- The rows of src/action_rows.rt fit those of mvm_insn: what an instruction does tells what stands behind its opcode.
use Rattle.std.proofs.Common.{◌≡◌, ℕ, zero, suc, List, [], ◌∷◌, slice_get, Option, Some, None, refl, sym, ap, subst, ◌∙◌}
use Rattle.std.specs.Prelude.{unwrap_or}
use Rattle.mvm_insn.specs.Opcodes.{all_operands, operands_of}
use Rattle.mvm_insn.specs.declared.table.Operands.{Operands}
use Rattle.mvm_insn.specs.declared.table.Operands.TheVariants.{Alone, ByteNumber, ShortNumber, ByteLocal, Increment, ShortJump, Absent}
use Rattle.mvm_local.specs.declared.action.Action.{Action}
use Rattle.mvm_local.specs.declared.action.Action.TheVariants as action
use Rattle.mvm_local.specs.declared.action_rows.TheConstants.{ACTIONS}
use Rattle.mvm_local.specs.Rows.{action_in, action_of, action_by, action_at}
use Rattle.mvm_local.specs.Bytes.{Stands}
use Rattle.mvm_local.proofs.CodeBytes.{one_byte}

-- what stands behind the opcode; none where it is not told
abbrev pub shape_of : Action → Option Operands
shape_of (action.Operate x) = Some Alone
shape_of action.PushByte = Some ByteNumber
shape_of action.PushShort = Some ShortNumber
shape_of (action.Load k) = Some ByteLocal
shape_of (action.LoadFrom k n) = Some Alone
shape_of (action.Store k) = Some ByteLocal
shape_of (action.StoreTo k n) = Some Alone
shape_of action.Increment = Some Increment
shape_of (action.Branch test) = Some ShortJump
shape_of action.LongGoto = None
shape_of action.Switch = None
shape_of action.Wide = None
shape_of action.Beyond = None
shape_of action.Absent = None

-- the shapes, and where none is told, those of a second list
completed : List Action → List Operands → List Operands
completed [] os = []
completed (a ∷ actions) [] = unwrap_or (shape_of a) Absent ∷ completed actions []
completed (a ∷ actions) (o ∷ os) = unwrap_or (shape_of a) o ∷ completed actions os

completed_at : (actions : List Action) (os : List Operands) (i : ℕ) (a : Action) → slice_get actions i ≡ Some a → slice_get (completed actions os) i ≡ Some (unwrap_or (shape_of a) (unwrap_or (slice_get os i) Absent))
unfolding completed
completed_at [] os i a e = absurd cc
completed_at (x ∷ actions) [] zero a e = (let k : x ≡ a = cc in ap (λ z. Some (unwrap_or (shape_of z) Absent)) k)
completed_at (x ∷ actions) [] (suc i) a e = completed_at actions [] i a e
completed_at (x ∷ actions) (o ∷ os) zero a e = (let k : x ≡ a = cc in ap (λ z. Some (unwrap_or (shape_of z) o)) k)
completed_at (x ∷ actions) (o ∷ os) (suc i) a e = completed_at actions os i a e

told : (actions : List Action) (os : List Operands) (op : ℕ) (a : Action) (s : Operands) → completed actions os ≡ os → action_in actions op ≡ a → shape_of a ≡ Some s → unwrap_or (slice_get os op) Absent ≡ s
told actions os op a s same acts shape = by (slice_get actions op) refl acts
  where
    by : (r : Option Action) → slice_get actions op ≡ r → unwrap_or r action.Absent ≡ a → unwrap_or (slice_get os op) Absent ≡ s
    by None e f = (let none : None ≡ Some s = ap shape_of f ∙ shape in absurd cc)
    by (Some x) e f =
        let found : slice_get os op ≡ Some (unwrap_or (shape_of x) (unwrap_or (slice_get os op) Absent)) = subst (λ xs. slice_get xs op ≡ Some (unwrap_or (shape_of x) (unwrap_or (slice_get os op) Absent))) same (completed_at actions os op x e) in
        let is : shape_of x ≡ Some s = ap shape_of f ∙ shape in
        ap (λ r. unwrap_or r Absent) found ∙ ap (λ r. unwrap_or r (unwrap_or (slice_get os op) Absent)) is

-- computed, row by row
rows_fit : completed ACTIONS all_operands ≡ all_operands
unfolding completed
rows_fit = refl

pub shape_is : (op : ℕ) (a : Action) (s : Operands) → action_of op ≡ a → shape_of a ≡ Some s → operands_of op ≡ s
unfolding action_of operands_of
shape_is op a s acts shape = told ACTIONS all_operands op a s rows_fit acts shape

-- the opcode at a place, by what its instruction does
pub record Opcode (code : List ℕ) (pc : ℕ) (a : Action) (s : Operands) : Type 0 where
  pub op : ℕ
  pub stands : Stands 1 pc code op
  pub acts : action_of op ≡ a
  pub shape : operands_of op ≡ s

pub opcode : (code : List ℕ) (pc : ℕ) (a : Action) (s : Operands) → shape_of a ≡ Some s → action_at pc code ≡ a → Opcode code pc a s
opcode code pc a s shape acts = by (slice_get code pc) refl acts
  where
    by : (r : Option ℕ) → slice_get code pc ≡ r → action_by r ≡ a → Opcode code pc a s
    by (Some op) e f = record { op = op; stands = one_byte code pc op e; acts = f; shape = shape_is op a s f shape }
    by None e f = (let none : None ≡ Some s = ap shape_of f ∙ shape in absurd cc)

-- The native methods and their numbers.
use Rattle.std.proofs.Common.{◌≡◌, ℕ, zero, suc, ◌+◌, List, [], ◌∷◌, Option, Some, None, refl, sym, ap, ◌∙◌, subst, arith}
use Rattle.std.specs.Prelude.{slice_get, All, IfSome}
use Rattle.std.specs.Option.{option_map}
use Rattle.std.proofs.lemmas.List.Elements.{All-nil, All-cons}
use Rattle.mvm_layout.specs.Pool.{text}
use Rattle.mvm_layout.specs.declared.parts.Item.{Item}
use Rattle.mvm_layout.specs.declared.parts.Member.{Member}
use Rattle.mvm_layout.specs.declared.parts.Parts.{Parts}
use Rattle.mvm_builtin.specs.Table.{Row, rows, named}
use Rattle.mvm_builtin.specs.Classes.{made, builtin}
use Rattle.mvm_builtin.specs.Natives.{number, native_at, native_in, native_in_row, native_method, IsCalled, IsMethodOf}
use Rattle.mvm_builtin.specs.declared.natives.Native.{Native}
use Rattle.mvm_builtin.specs.declared.natives.Native.TheVariants as native
use Rattle.mvm_builtin.specs.declared.natives.TheConstants.{NATIVES}
use Rattle.mvm_builtin.proofs.Found.{EachRow, found_named}

-- ---- numbers

-- each of the native methods from a number on has the number of its place
abbrev Numbered : ℕ → List Native → Type 0
Numbered from [] = Unit {0}
Numbered from (one ∷ natives) = (number one ≡ from) × Numbered (from + 1) natives

all_numbered : Numbered 0 NATIVES
unfolding number
all_numbered = (refl, (refl, (refl, (refl, (refl, (refl, (refl, (refl, (refl, (refl, (refl, (refl, (refl, (refl, (refl, (refl, (refl, (refl, (refl, (refl, (refl, (refl, (refl, (refl, (refl, (refl, (refl, (refl, (refl, (refl, (refl, (refl, (refl, (refl, (refl, (refl, (refl, (refl, (refl, (refl, (refl, (refl, (refl, (refl, (refl, (refl, (refl, (refl, (refl, (refl, (refl, (refl, (refl, (refl, (refl, (refl, tt))))))))))))))))))))))))))))))))))))))))))))))))))))))))

numbered_at : (from place : ℕ) (natives : List Native) (one : Native) → Numbered from natives → slice_get natives place ≡ Some one → number one ≡ from + place
numbered_at from place [] one k e = absurd cc
numbered_at from zero (first ∷ natives) one k e =
    let same : first ≡ one = cc in
    let here : from ≡ from + zero = omega arith in
    ap number (sym same) ∙ k.0 ∙ here
numbered_at from (suc place) (first ∷ natives) one k e =
    let next : (from + 1) + place ≡ from + suc place = omega arith in
    numbered_at (from + 1) place natives one k.1 e ∙ next

pub only : (place : ℕ) (one : Native) → native_at place ≡ Some one → number one ≡ place
unfolding native_at
only place one e = let zero_more : 0 + place ≡ place = omega arith in numbered_at 0 place NATIVES one all_numbered e ∙ zero_more

pub at : (one : Native) → native_at (number one) ≡ Some one
unfolding native_at number
at native.InitObject = refl
at native.ObjectEquals = refl
at native.Wait = refl
at native.Notify = refl
at native.NotifyAll = refl
at native.StringLength = refl
at native.CharAt = refl
at native.Substring = refl
at native.StringEquals = refl
at native.HashCode = refl
at native.StringToString = refl
at native.ValueOfInt = refl
at native.ValueOfLong = refl
at native.ValueOfChar = refl
at native.ValueOfBoolean = refl
at native.InitBuilder = refl
at native.AppendInt = refl
at native.AppendLong = refl
at native.AppendChar = refl
at native.AppendBoolean = refl
at native.AppendText = refl
at native.BuilderLength = refl
at native.BuilderToString = refl
at native.Exit = refl
at native.PrintInt = refl
at native.PrintLong = refl
at native.PrintChar = refl
at native.PrintBoolean = refl
at native.PrintText = refl
at native.PrintlnInt = refl
at native.PrintlnLong = refl
at native.PrintlnChar = refl
at native.PrintlnBoolean = refl
at native.PrintlnText = refl
at native.Println = refl
at native.ParseInt = refl
at native.InitThread = refl
at native.InitTarget = refl
at native.StartThread = refl
at native.Join = refl
at native.CurrentThread = refl
at native.SysPrintln = refl
at native.IsolateNumber = refl
at native.StartIsolate = refl
at native.HaltIsolate = refl
at native.SendInts = refl
at native.SendLongs = refl
at native.SendBytes = refl
at native.SendText = refl
at native.Receive = refl
at native.CloseLink = refl
at native.InitThrowable = refl
at native.InitMessage = refl
at native.InitCause = refl
at native.GetMessage = refl
at native.GetCause = refl

pub apart : (one other : Native) → number one ≡ number other → one ≡ other
apart one other e =
    let first : native_at (number one) ≡ Some one = at one in
    let second : native_at (number other) ≡ Some other = at other in
    let same : native_at (number one) ≡ native_at (number other) = ap native_at e in
    cc

-- ---- the methods of a row

abbrev CalledIn : Row → ℕ → Option (List ℕ) → Option (List ℕ) → Type 0
CalledIn row flags (Some name) (Some desc) = IsCalled (native_in name desc row.lines) name desc flags
CalledIn row flags _ _ = Unit {0}

abbrev AllCalled : Row → List Item → List Member → Type 0
AllCalled row pool [] = Unit {0}
AllCalled row pool (method ∷ methods) = CalledIn row method.flags (text pool method.name) (text pool method.desc) × AllCalled row pool methods

abbrev pub MethodsCalled : Row → Type 0
MethodsCalled row = AllCalled row (made row).pool (made row).methods

called_in : (class : List ℕ) (row : Row) (pool : List Item) (method : Member) → named class rows ≡ Some row → CalledIn row method.flags (text pool method.name) (text pool method.desc) → IsMethodOf class pool method
unfolding native_method
called_in class row pool method is k = λ name desc s t.
    let here : CalledIn row method.flags (Some name) (Some desc) = subst (λ (d : Option (List ℕ)). CalledIn row method.flags (Some name) d) t (subst (λ (n : Option (List ℕ)). CalledIn row method.flags n (text pool method.desc)) s k) in
    subst (λ (found : Option Row). IsCalled (native_in_row name desc found) name desc method.flags) (sym is) here

all_called : (class : List ℕ) (row : Row) (pool : List Item) (methods : List Member) → named class rows ≡ Some row → AllCalled row pool methods → All (IsMethodOf class pool) methods
all_called class row pool [] is k = All-nil (IsMethodOf class pool)
all_called class row pool (method ∷ methods) is k = All-cons (IsMethodOf class pool) method methods (called_in class row pool method is k.0) (all_called class row pool methods is k.1)

pub methods_called : (class : List ℕ) (file : Parts) → EachRow MethodsCalled rows → builtin class ≡ Some file → All (IsMethodOf class file.pool) file.methods
unfolding builtin
methods_called class file k e = by (named class rows) refl (found_named MethodsCalled class rows k) e
  where
    by : (found : Option Row) → named class rows ≡ found → IfSome found MethodsCalled → option_map made found ≡ Some file → All (IsMethodOf class file.pool) file.methods
    by None is m e = absurd cc
    by (Some row) is m e =
        let same : made row ≡ file = cc in
        subst (λ (p : Parts). All (IsMethodOf class p.pool) p.methods) same (all_called class row (made row).pool (made row).methods is m)

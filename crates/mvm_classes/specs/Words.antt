-- The classes that words name, by the files of a store.
use Rattle.std.specs.Prelude.{◌≡◌, ℕ, List, [], ◌∷◌, ◌++◌, Some, None, ◌⊎◌, All, Contains, codes}
use Rattle.mvm_base.specs.ModifiedUtf8.{spelled_all}
use Rattle.mvm_outside.specs.Files.{Files}
use Rattle.mvm_table.specs.Files.{File}

-- the name of the class file of a word
abbrev pub path_of : List ℕ → List ℕ
path_of word = word ++ codes ".class"

-- a class of a set is that of a word: the word spells its name, and it has the bytes of the word's class file
pub record IsOf (files : Files) (word : List ℕ) (class : File) : Type 0 where
  pub name : word ≡ spelled_all class.name
  pub bytes : files (path_of word) ≡ Some class.bytes

-- each class is that of a word, and each word that has a class file has its class
pub record AreOf (files : Files) (words : List (List ℕ)) (classes : List File) : Type 0 where
  pub only : All (λ class. (word : List ℕ) × Contains words word × IsOf files word class) classes
  pub all : All (λ word. (bytes : List ℕ) → files (path_of word) ≡ Some bytes → (class : File) × Contains classes class × IsOf files word class) words

-- the classes of words are those of one word more, where a store has a file of it
abbrev pub IsMore : Files → List ℕ → List File → List File → Type 0
IsMore files word old new = ((files (path_of word) ≡ None) × (new ≡ old)) ⊎ ((class : File) × (new ≡ old ++ class ∷ []) × IsOf files word class)

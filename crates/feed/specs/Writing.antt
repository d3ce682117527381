-- Writing a text to any writer, or after another text.
use Rattle.std.specs.Prelude.{ℕ, List, Option, Some, ◌≡◌, IfSome}
use Rattle.std.specs.Io.KnownBytes.{Appends}

-- a text of which P holds was appended to what the writer held; nothing is said of a writer whose type does not say
-- what it holds
pub record WritesText (P : List ℕ → Type 0) (held holds : Option (List ℕ)) : Type 0 where
  pub text : List ℕ
  pub says : P text
  pub appended : Appends held holds text

-- a text of which P holds was appended to the text `before`, which is now `after`
abbrev pub GrowsByText : (List ℕ → Type 0) → (before after : List ℕ) → Type 0
GrowsByText P before after = WritesText P (Some before) (Some after)

-- what is written of all that a reader had, where it is known what the reader had and what the writer held; IsTextOf
-- says which texts belong to a feed
abbrev pub WritesFor : (List ℕ → List ℕ → Type 0) → (had held holds : Option (List ℕ)) → Type 0
WritesFor IsTextOf had held holds = IfSome had (λ feed. WritesText (IsTextOf feed) held holds)

-- no other text is one of which P holds
abbrev pub IsOnlyText : (List ℕ → Type 0) → List ℕ → Type 0
IsOnlyText P text = (other : List ℕ) → P other → other ≡ text

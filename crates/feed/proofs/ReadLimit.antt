-- Reading one byte more than a feed may have is enough to see that it is too long.
use Rattle.std.proofs.Common.{◌≡◌, ℕ, ◌<◌, ◌⊎◌, List, [], ◌++◌, length, take, Some, None, Option, IfSome, inl, inr, ◌∙◌, subst, ⊎_elim, arith}
use Rattle.std.proofs.lemmas.List.{length-take-le, take_all}
use Rattle.std.proofs.str.Laws.{order}
use Rattle.std.specs.Io.KnownBytes.{Appends}
use Rattle.std.specs.Option.{option_map}
use Rattle.feed.specs.Writing.{WritesText}

-- what reading up to 65,537 bytes gives, where it is known what the reader still has
pub read_to : (remaining : Option (List ℕ)) (bytes : List ℕ) {n : ℕ} {before : List ℕ} → n ≡ 65537 → before ≡ [] → IfSome (option_map (take n) remaining) (λ more. bytes ≡ before ++ more) → IfSome remaining (λ feed. bytes ≡ take 65537 feed)
read_to None bytes limit empty read = tt
read_to (Some feed) bytes limit empty read = read ∙ (λ i. empty i ++ take (limit i) feed)

-- the bytes read are the whole feed, or both they and the feed are too long
pub all_or_long : (feed : List ℕ) → (take 65537 feed ≡ feed) ⊎ ((65536 < length (take 65537 feed)) × (65536 < length feed))
all_or_long feed =
    ⊎_elim (λ short. inl (take_all 65537 feed (omega (arith, short))))
    (λ long. inr (omega (arith, length-take-le 65537 feed long), omega (arith, long)))
    (order (length feed) 65537)

-- a text that is right for the bytes that were read is right for the whole feed, if P of the first implies Q of the
-- second
pub written_for : (P Q : List ℕ → List ℕ → Type 0) → ((feed text : List ℕ) → P (take 65537 feed) text → Q feed text) → (remaining held holds : Option (List ℕ)) (bytes text : List ℕ) → IfSome remaining (λ feed. bytes ≡ take 65537 feed) → P bytes text → Appends held holds text → IfSome remaining (λ feed. WritesText (Q feed) held holds)
written_for P Q serves None held holds bytes text read says appended = tt
written_for P Q serves (Some feed) held holds bytes text read says appended =
    record { text = text; says = serves feed text (subst (λ bs. P bs text) read says); appended = appended }

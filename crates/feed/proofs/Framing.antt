-- The first note of bytes: laws of `IsFramed` and `first_note`.
use Rattle.std.proofs.Common.{◌≡◌, ℕ, ◌+◌, ◌-◌, ◌≤◌, ◌⊎◌, List, ◌++◌, length, take, drop, sym, refl, ap, ◌∙◌, inl, inr, ⊎_elim, arith, length-append, take-append-drop}
use Rattle.std.proofs.lemmas.List.{length-take-le, take-take, take_all, take_at, drop-take, drop_at}
use Rattle.std.proofs.str.Laws.{order}
use Rattle.feed.specs.Fields.{little_endian_number, field}
use Rattle.feed.specs.Frames.{IsFramed, first_note, IsOneNote}

-- a field within the first n bytes depends only on these
pub field_take : (bs : List ℕ) (n at w : ℕ) → at + w ≤ n → field (take n bs) at w ≡ field bs at w
unfolding field
field_take bs n at w h =
    let more : at + (n - at) ≡ n = omega arith in
    ap little_endian_number (ap (λ m. take w (drop at (take m bs))) (sym more) ∙ ap (take w) (drop-take at (n - at) bs) ∙ take-take w (n - at) (drop at bs) (omega arith))

pub length_first : (bs : List ℕ) → IsFramed bs → length (first_note bs) ≡ field bs 0 2
unfolding first_note
length_first bs h = length-take-le (field bs 0 2) bs h.whole

-- the first note of framed bytes is one note: its length field gives its length
pub one_first : (bs : List ℕ) → IsFramed bs → IsOneNote (first_note bs)
unfolding first_note
one_first bs h =
    let long = length_first bs h in
    let same = field_take bs (field bs 0 2) 0 2 (omega (arith, h.least)) in
    record { head = omega (arith, long, h.least); sized = same ∙ sym long }

pub framed_one : (note : List ℕ) → IsOneNote note → IsFramed note
framed_one note h = record { head = h.head; least = omega (arith, h.head, h.sized); whole = omega (arith, h.sized) }

-- one note is its own first note
pub first_one : (note : List ℕ) → IsOneNote note → first_note note ≡ note
unfolding first_note
first_one note h = take_all (field note 0 2) note (omega (arith, h.sized))

-- framed bytes are their first note followed by the rest
pub first_whole : (bs : List ℕ) → IsFramed bs → first_note bs ++ drop (length (first_note bs)) bs ≡ bs
unfolding first_note
first_whole bs h = ap (λ n. take (field bs 0 2) bs ++ drop n bs) (length_first bs h) ∙ take-append-drop (field bs 0 2) bs

-- a field within xs is the same field of xs followed by other bytes
field_front : (xs ys : List ℕ) (at w : ℕ) → at + w ≤ length xs → field (xs ++ ys) at w ≡ field xs at w
field_front xs ys at w h =
    sym (field_take (xs ++ ys) (length xs) at w h) ∙ ap (λ l. field l at w) (take_at xs ys (length xs) refl)

front_length : (note rest : List ℕ) → IsOneNote note → field (note ++ rest) 0 2 ≡ length note
front_length note rest one = field_front note rest 0 2 (omega (arith, one.head)) ∙ one.sized

-- bytes that begin with one note are framed
pub framed_front : (note rest : List ℕ) → IsOneNote note → IsFramed (note ++ rest)
framed_front note rest one =
    let long = front_length note rest one in
    let both = length-append note rest in
    record { head = omega (arith, one.head); least = omega (arith, one.head); whole = omega arith }

-- bytes begin with at most one note
pub front_only : (n rest n' rest' : List ℕ) → IsOneNote n → IsOneNote n' → n ++ rest ≡ n' ++ rest' → (n ≡ n') × (rest ≡ rest')
front_only n rest n' rest' one one' same =
    let long = sym (front_length n rest one) ∙ ap (λ l. field l 0 2) same ∙ front_length n' rest' one' in (
      sym (take_at n rest (length n) refl) ∙ ap (take (length n)) same ∙ take_at n' rest' (length n) (sym long),
      sym (drop_at n rest (length n) refl) ∙ ap (drop (length n)) same ∙ drop_at n' rest' (length n) (sym long),
    )

pub framed_or_not : (bs : List ℕ) → IsFramed bs ⊎ (IsFramed bs → ⊥)
framed_or_not bs =
    ⊎_elim (λ l. inr (λ h. omega (arith, h.head)))
    (λ head. ⊎_elim (λ l. inr (λ h. omega (arith, h.least)))
    (λ least. ⊎_elim (λ l. inr (λ h. omega (arith, h.whole))) (λ whole. inl (record { head = head; least = least; whole = whole })) (order (length bs) (field bs 0 2)))
    (order (field bs 0 2) 4))
    (order (length bs) 4)

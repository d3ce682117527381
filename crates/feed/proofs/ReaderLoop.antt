-- A loop over a reader: its results so far go before the results for the rest of the feed.
use Rattle.std.proofs.Common.{◌≡◌, ℕ, ◌+◌, List, [], ◌++◌, length, sym, ap, ◌∙◌, subst, append_assoc}
use Rattle.feed.specs.declared.reader.Part.{Part}
use Rattle.feed.specs.declared.reader.Reader.{Reader}
use Rattle.feed.specs.Feeds.{part_bytes, rest_of, IsNewReader, HandsOut, Stays}
use Rattle.feed.proofs.ReaderLaw.{hands_next, stays_left}

-- Of k at bytes xs: the results xs are right for bytes whose first note has the place k and comes after `at` bytes of a
-- feed
module _ {X : Type 0} (Of : ℕ → ℕ → List ℕ → List X → Type 0) where
  -- `done` are the results for the part of bytes that the reader has handed out
  pub record SoFar (k at : ℕ) (bytes : List ℕ) (r : Reader) (done : List X) : Type 0 where
    pub before : (more : List X) → Of (r.handed_out + 1) r.start (rest_of r) more → Of k at bytes (done ++ more)

  pub none_yet : (r : Reader) {done : List X} → done ≡ [] → SoFar (r.handed_out + 1) r.start (rest_of r) r done
  none_yet r empty = record { before = λ more h. rw empty h }

  pub begun : {feed : List ℕ} {r : Reader} {done : List X} → IsNewReader feed r → done ≡ [] → SoFar 1 0 feed r done
  begun start empty = record { before = λ more h. rw empty (rw (start.bytes, start.notes, start.over) at h) }

  module _ {k at : ℕ} {bytes : List ℕ} {r : Reader} {done : List X} (old : SoFar k at bytes r done) where
    -- one more note, with the results `item`
    pub one_more : {p : Part} {t : Reader} {longer : List X} (item : List X) → HandsOut r p t → longer ≡ done ++ item → ((more : List X) → Of (p.place + 1) (p.start + length (part_bytes p)) (rest_of t) more → Of p.place p.start (part_bytes p ++ rest_of t) (item ++ more)) → SoFar k at bytes t longer
    one_more {p} {t} {longer} item hands is step =
        record {
          before = λ more h.
              let next = step more (subst (λ n. Of (n + 1) (p.start + length (part_bytes p)) (rest_of t) more) (hands.notes ∙ sym hands.place) (subst (λ at'. Of (t.handed_out + 1) at' (rest_of t) more) (hands.bytes ∙ ap (λ s. s + length (part_bytes p)) (sym hands.start)) h)) in
              let here : Of (r.handed_out + 1) r.start (rest_of r) (item ++ more) = subst (λ bs. Of (r.handed_out + 1) r.start bs (item ++ more)) (hands_next r p t hands) (rw (← hands.place, ← hands.start) next) in
              subst (Of k at bytes) (sym (append_assoc done item more) ∙ ap (λ l. l ++ more) (sym is)) (old.before (item ++ more) here);
        }

    -- a reader that hands out no note changes nothing
    pub stays : {t : Reader} → Stays r t → SoFar k at bytes t done
    stays {t} stay =
        record {
          before = λ more h.
              old.before more (subst (λ bs. Of (r.handed_out + 1) r.start bs more) (stays_left r t stay) (subst (λ at'. Of (r.handed_out + 1) at' (rest_of t) more) stay.bytes (subst (λ n. Of (n + 1) t.start (rest_of t) more) stay.notes h)));
        }

    -- the results for what is left complete them
    pub all : {last longer : List X} → Of (r.handed_out + 1) r.start (rest_of r) last → longer ≡ done ++ last → Of k at bytes longer
    all {last} left is = subst (Of k at bytes) (sym is) (old.before last left)

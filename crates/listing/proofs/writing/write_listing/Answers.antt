use Rattle.std.proofs.Common.{string_bytes, ◌∙◌, subst}
use Rattle.std.proofs.lemmas.Result.{on_ok_weaker}
use Rattle.std.specs.Io.KnownBytes.{Appends}
use Rattle.feed.proofs.ReadLimit.{written_for}
use Rattle.listing.proofs.ReadLimit.{is_listing}
use Rattle.listing.specs.WrittenListings.{ListsOrRefuses, IsListing}
use Rattle.listing.proofs.writing.write_listing.Goals as goal

pub returns : goal.returns
returns g c =
    let remaining = g.R.Read.remaining c.args.reader in
    let held = g.W.Write.contents c.args.writer.now in
    let holds = g.W.Write.contents c.write_all.new.self in
    let text = string_bytes c.in_ok-text.text in
    let lists = subst (λ bs. ListsOrRefuses bs text) c.as_slice.ensures.value c.in_ok-text.ensures in
    on_ok_weaker c.write_all.result (λ appended. written_for ListsOrRefuses IsListing is_listing remaining held holds _ text c.in_ok-feed.ensures lists (subst (Appends held holds) (c.as_bytes.ensures.value ∙ c.as_str.ensures.value) appended)) c.write_all.ensures.bytes

-- Reading a feed comes to an end.
use Rattle.std.proofs.Common.{ℕ, ◌-◌, ◌<◌, length, ap, arith}
use Rattle.feed.specs.declared.reader.Part.{Part}
use Rattle.feed.specs.declared.reader.Reader.{Reader}
use Rattle.feed.specs.Feeds.{HandsOut}
use Rattle.feed.proofs.ReaderLaw.{hands_note}

-- the number of bytes that a reader has not handed out yet
abbrev pub bytes_left : Reader → ℕ
bytes_left r = length r.feed.now - r.start

-- every note that is handed out leaves fewer of them
pub fewer_left : {r : Reader} {p : Part} {t : Reader} → HandsOut r p t → bytes_left t < bytes_left r
fewer_left {r} {p} {t} step =
    let whole = ap length step.over in
    omega (arith, t.start_within, step.bytes, whole, (hands_note r p t step).head)

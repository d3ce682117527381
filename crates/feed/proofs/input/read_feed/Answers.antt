use Rattle.feed.proofs.ReadLimit.{read_to}
use Rattle.feed.proofs.input.read_feed.Goals as goal

pub returns : goal.returns
returns g c =
    read_to (g.R.Read.remaining c.args.reader) c.read_to_end.new.buf.items c.take.ensures.limit c.new-feed.ensures.items (rw c.take.ensures.inner at c.in_ok-read_to_end.ensures.bytes)

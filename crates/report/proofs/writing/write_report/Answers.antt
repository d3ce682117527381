use Rattle.std.proofs.Common.{ℕ, List, take, string_bytes, ◌∙◌, subst}
use Rattle.std.proofs.lemmas.Result.{on_ok_weaker}
use Rattle.std.specs.Io.KnownBytes.{Appends}
use Rattle.feed.proofs.ReadLimit.{written_for}
use Rattle.report.proofs.ReadLimit.{enough}
use Rattle.report.proofs.OneReport.{is_report}
use Rattle.report.specs.Reports.{IsReportText, IsReport}
use Rattle.report.proofs.writing.write_report.Goals as goal

pub returns : goal.returns
returns g c =
    let remaining = g.R.Read.remaining c.args.reader in
    let held = g.W.Write.contents c.args.writer.now in
    let holds = g.W.Write.contents c.write_all.new.self in
    let text = string_bytes c.in_ok-text.text in
    let reports = subst (λ bs. IsReportText bs text) c.as_slice.ensures.value c.in_ok-text.ensures.value in
    let serves = λ (feed text : List ℕ) (reports : IsReportText (take 65537 feed) text). is_report (enough feed text reports) in
    on_ok_weaker c.write_all.result (λ appended. written_for IsReportText IsReport serves remaining held holds _ text c.in_ok-feed.ensures reports (subst (Appends held holds) (c.as_bytes.ensures.value ∙ c.as_str.ensures.value) appended)) c.write_all.ensures.bytes

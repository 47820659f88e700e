-- `bench::answer_into` meets its contract: job_text refuses no buffer that has room for every answer. Assumes nothing.
use Rattle.std.proofs.Common.{sym, ◌∙◌, length-take-le}
use Rattle.job_text.proofs.Answering.{given_or}
use Rattle.bench.proofs.answer_into.Goals as goal

pub returns : goal.returns
returns c =
    let g = given_or c.args.text.now c.args.out.now c.answer.new.out c.requires c.answer.ensures.out_after c.answer.result c.answer.ensures.value in
    rw c.unwrap_or.ensures (record { out_after = g.front; prefix_len = (g.inside, sym (length-take-le _ c.answer.new.out g.inside)) })

-- `write` meets its contract: 12, what the check finds, or the text with zeros behind it.
use Rattle.std.proofs.Common.{sym, arith}
use Rattle.std.proofs.lemmas.Result.{err_from_is_err_and}
use Rattle.text.proofs.Saying.{text_fits}
use Rattle.text.proofs.WriteCalls.{wrong_length, log_turned, written}
use Rattle.text.proofs.writer.write.Goals as goal

pub returns-then-out-ne-WRITTEN : goal.returns-then-out-ne-WRITTEN
returns-then-out-ne-WRITTEN c = wrong_length c.args.log.now c.args.out.now c.if-out-ne-WRITTEN.true

pub returns-in_err-check : goal.returns-in_err-check
returns-in_err-check c =
    let p = err_from_is_err_and c.from_residual.result c.from_residual.ensures.1 in
    rw (p.1, p.2) (log_turned c.args.log.now c.args.out.now c.if-out-ne-WRITTEN.false (sym c.in_err-check.ensures))

pub put_steps-n-requires : goal.put_steps-n-requires
put_steps-n-requires c = (sym c.in_ok-check.ensures, c.if-out-ne-WRITTEN.false)

pub clear_bytes_from-requires : goal.clear_bytes_from-requires
clear_bytes_from-requires c =
    omega (arith, text_fits c.args.log.now (sym c.in_ok-check.ensures), c.put_steps-n.ensures.reaches, c.put_steps-n.ensures.size, c.if-out-ne-WRITTEN.false)

pub returns : goal.returns
returns c =
    written c.args.log.now c.args.out.now c.if-out-ne-WRITTEN.false (sym c.in_ok-check.ensures) c.put_steps-n.ensures c.clear_bytes_from.ensures

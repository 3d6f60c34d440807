-- A run of one command, or a refusal. Assumes nothing.
use mathlib.Core.Path.{sym, ◌∙◌}
use Rattle.formats.specs.Format.{format_of}
use Rattle.store.proofs.Step.{serve_unsound, serve_malformed}
use Rattle.store.proofs.One.{not_one, one_image_lem, one_reply, one_line, refused_exits}
use Rattle.store.proofs.inner.run.one.Goals as goal

pub returns-then-end-command : goal.returns-then-end-command
returns-then-end-command c =
    let e = c.many.ensures in
    let step = c.next_from-end.ensures in
    let chosen = c.if-end-command.true in record {
      served = (
        e.ran.1.1.1 ∙ one_line (format_of c.args.v) c.args.image.now c.args.reply.now c.args.command.now c.args.line.now step chosen c.requires.1,
        (
          e.ran.1.0 ∙ one_image_lem (format_of c.args.v) c.args.image.now c.args.reply.now c.args.command.now c.args.line.now step chosen c.requires.1,
          e.ran.1.1.0 ∙ one_reply (format_of c.args.v) c.args.image.now c.args.reply.now c.args.command.now c.args.line.now step chosen c.requires.1,
        ),
      );
      kept = e.kept;
    }

pub returns-then-checked : goal.returns-then-checked
returns-then-checked c =
    let none = not_one (format_of c.args.v) c.args.command.now
    c.next_from-end.ensures c.if-end-command.false in let all = refused_exits c.args.line.now 1
    (serve_malformed (format_of c.args.v) c.args.image.now c.args.command.now c.args.reply.now
    (sym c.requires.0 ∙ c.if-checked.true) none)
    c.refusal.ensures c.put_line.ensures c.requires.1 c.requires.0 in record { served = all.0; kept = all.1 }

pub returns : goal.returns
returns c =
    let all = refused_exits c.args.line.now 9
    (serve_unsound (format_of c.args.v) c.args.image.now c.args.command.now c.args.reply.now
    (sym c.requires.0 ∙ c.if-checked.false))
    c.refusal-2.ensures c.put_line-2.ensures c.requires.1 c.requires.0 in record { served = all.0; kept = all.1 }

use mathlib.Core.Path.{sym}
use borrow.Author.Tests.{lt-ltb, le-ltb}
use Rattle.desk_proposals.proofs.inner.may_propose.Goals as goal

-- src/lib.rt:81:13
pub returns-then-not-mode-known : goal.returns-then-not-mode-known
returns-then-not-mode-known c = sym (rw c.if-not-mode-known.true)

-- src/lib.rt:84:13
pub returns-then-t_for-gt-LAST_T : goal.returns-then-t_for-gt-LAST_T
returns-then-t_for-gt-LAST_T c = sym (rw (c.if-not-mode-known.false, ← c.t_for.ensures, lt-ltb _ _ c.if-t_for-gt-LAST_T.true))

-- src/lib.rt:77:5
pub returns : goal.returns
returns c = sym (rw (c.if-not-mode-known.false, ← c.t_for.ensures, le-ltb _ _ c.if-t_for-gt-LAST_T.false))

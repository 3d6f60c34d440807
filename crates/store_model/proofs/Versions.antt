-- An image of another version, and languages by themselves. Assumes nothing.
use Prim.Native.Nat.{ℕ}
use mathlib.Core.Path.{◌≡◌, refl, sym, ap, ◌∙◌}
use mathlib.Core.List.{List}
use mathlib.Core.Bool.{true, false, and-false}
use lib.ListN.{length}
use Rattle.commands.specs.Command.{Language, original, translation, writes}
use Rattle.commands.specs.declared.Command.{Command}
use Rattle.commands.proofs.Languages.{writes_named, writes_other, one_write, no_original}
use Rattle.guard.specs.Replies.{replied}
use Rattle.formats.specs.Format.{Format}
use Rattle.image.specs.Image.{sound}
use Rattle.image_claims.proofs.Claims.{number_tells}
use Rattle.lists.specs.Table.{first}
use Rattle.store_model.specs.Serve.{serve, serve_by, store_rows}
use Rattle.store_model.specs.Words.{Event, command_of, accepted, wrote}
use Rattle.store_model.specs.Claims.{Turned, OtherVersion, EachByItself}

-- What is no sound image is answered 9.
pub turned : (g : Format) (image command reply : List ℕ) → sound g image ≡ false → Turned g image command reply
unfolding serve serve_by replied
turned g image command reply e =
    let nine : first (store_rows g image command (length reply)) ≡ 9 = rw e in
    record { number = rw nine; kept = rw nine; silent = rw nine }

pub other_version : OtherVersion
other_version g image command reply other = turned g image command reply (number_tells g image other)

-- A command that writes one language writes no other.
one_language : (c : Command) (l m : Language) → (l ≡ m → ⊥) → writes l c ≡ true → writes m c ≡ false
one_language c original original apart w = absurd (apart refl)
one_language c original (translation u) apart w = one_write c w u
one_language c (translation t) original apart w = no_original c t w
one_language c (translation t) (translation u) apart w =
    writes_other c u (λ z. apart (ap translation (sym (writes_named c t w) ∙ z)))

no_write : (e : Event) (k : ℕ) (m : Language) → writes m (command_of e) ≡ false → wrote m k e ≡ false
no_write e k m h = rw h (and-false (accepted k e))

pub each_by_itself : EachByItself
each_by_itself e before k =
    record {
      texts = λ l m apart w. rw (no_write e k m (one_language (command_of e) l m apart w));
      behind = λ t u apart w.
          rw (
            no_write e k original (no_original (command_of e) t w),
            no_write e k (translation u) (one_language (command_of e) (translation t) (translation u) (λ z. apart (same z)) w),
          );
    }
  where
    numbered : Language → ℕ
    numbered original = 0
    numbered (translation t) = t

    same : {t u : ℕ} → translation t ≡ translation u → t ≡ u
    same z = ap numbered z

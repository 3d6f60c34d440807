-- The claims of specs/Claims, proved. Assumes nothing.
use Prim.Native.Nat.{ℕ}
use mathlib.Core.Path.{◌≡◌, refl, ap}
use mathlib.Core.Bool.{Bool, ◌||◌}
use lib.ListN.{drop, take-append-drop}
use lib.Seq.{length-take-le}
use Rattle.lists.specs.Table.{first, settled, listed}
use Rattle.lists.proofs.Table.{given, unapplied, settled_old, first_all}
use Rattle.desk_shows.specs.Show.{Text, of, beyond, behind_asked, show_rows, desk_rows, shown_number}
use Rattle.desk_shows.specs.Claims.{ShownExactly, Prefix, Alike, Independent, shown_numbers, DeskClaims, AlikeCases, ShownCases}
use Rattle.desk_shows.specs.declared.Asked.{Asked}
use Rattle.desk_shows.specs.declared.Asked.TheVariants.{Original, Translation}
use Rattle.desk_shows.proofs.Show.{fits}

module _ (o t : Text) (edition from : ℕ) (asked : Asked) where
  exactly : ShownExactly o t edition from asked
  exactly =
      record {
        refused = given (desk_rows o t edition from asked) tt;
        shown = unapplied (desk_rows o t edition from asked) tt;
      }

  prefix : Prefix o t edition from asked
  prefix =
      record {
        rest = drop (settled (shown_number o t edition from asked) (of asked o t).length 0) (of asked o t).buffer;
        whole = take-append-drop (settled (shown_number o t edition from asked) (of asked o t).length 0) (of asked o t).buffer;
        shown = λ e. rw e (length-take-le (of asked o t).length (of asked o t).buffer (fits asked o t (behind_asked edition from asked) e));
        refused = λ h. rw (settled_old (of asked o t).length 0 h);
      }

-- The test for a length beyond its buffer, of the text asked for and of the other.
beyond_alike : (asked : Asked) (o t o' t' : Text) → Alike asked o t o' t' → (beyond o || beyond t) ≡ (beyond o' || beyond t')
beyond_alike Original o t o' t' a = rw (ap beyond a.same, a.size, a.long)
beyond_alike Translation o t o' t' a = rw (ap beyond a.same, a.size, a.long)

independent : (asked : Asked) (o t o' t' : Text) (edition from : ℕ) → Alike asked o t o' t' → Independent asked o t o' t' edition from
independent asked o t o' t' edition from a =
    let number : shown_number o t edition from asked ≡ shown_number o' t' edition from asked =
    ap (λ (long : Bool). first (show_rows long (behind_asked edition from asked))) (beyond_alike asked o t o' t' a) in
    record { number = number; part = rw (a.same, number) }

pub claims : DeskClaims
claims =
    record {
      exactly = exactly;
      prefix = prefix;
      independent = independent;
      numbers = λ o t edition from asked. first_all (listed shown_numbers) (desk_rows o t edition from asked) tt tt;
    }

pub alike_cases : AlikeCases
alike_cases =
    record {
      originals = record { same = refl; size = refl; long = refl };
      translations = record { same = refl; size = refl; long = refl };
      shows_original = refl;
      shows_translation = refl;
    }

pub shown_cases_lem : ShownCases
shown_cases_lem = record { gives = refl; shows = refl }

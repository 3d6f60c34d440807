-- A run is the trace of its requests. Assumes nothing.
use Prim.Native.Nat.{ℕ}
use mathlib.Core.Path.{◌≡◌, refl, ap, ◌∙◌}
use mathlib.Core.List.{List, [], ◌∷◌, ◌++◌, map, reverse, reverse-cons}
use Rattle.formats.specs.Format.{Format}
use Rattle.guard.specs.declared.Answer.{Answer}
use Rattle.store_model.specs.Serve.{serve}
use Rattle.store_model.specs.Words.{Sent, Event, image_after}
use Rattle.store_model.specs.Cases.{Got, run, shown}
use Rattle.store_model.proofs.Cases.{run_logged, image_first}
use Rattle.store.specs.Runs.{runs}
use Rattle.program_claims.specs.Claims.{requests, traced, Traced}

-- What `f` says of what is shown is what it says of the events.
of_shown : {A : Type 0} (f : Got → A) (l : List Event) → map f (map shown l) ≡ map (λ (e : Event). f (shown e)) l
of_shown f [] = refl
of_shown f (e ∷ l) = ap (λ (m : List _). f (shown e) ∷ m) (of_shown f l)

module _ (v : Format) where
  sends : (image reply : List ℕ) (cs : List (List ℕ)) → map (λ (s : Sent). s.command) (requests v image reply cs) ≡ cs
  unfolding requests
  sends image reply [] = refl
  sends image reply (c ∷ cs) = ap (λ (l : List (List ℕ)). c ∷ l) (sends (serve v image c reply).image (serve v image c reply).reply cs)

  -- ---- a run is the table's run of its requests

  lends_run : (image reply : List ℕ) (cs : List (List ℕ)) →
      map (λ (s : Sent). s.lent) (requests v image reply cs) ++ ((runs v image reply cs).reply ∷ [])
      ≡ reply ∷ map (λ (g : Got). g.reply) (run v image (requests v image reply cs))
  unfolding requests runs run
  lends_run image reply [] = refl
  lends_run image reply (c ∷ cs) =
      ap (λ (l : List (List ℕ)). reply ∷ l) (lends_run (serve v image c reply).image (serve v image c reply).reply cs)

  answers_run : (image reply : List ℕ) (cs : List (List ℕ)) →
      (runs v image reply cs).answers ≡ map (λ (g : Got). g.answer) (run v image (requests v image reply cs))
  unfolding requests runs run
  answers_run image reply [] = refl
  answers_run image reply (c ∷ cs) =
      ap (λ (l : List Answer). (serve v image c reply).answer ∷ l) (answers_run (serve v image c reply).image (serve v image c reply).reply cs)

  leaves : (image reply : List ℕ) (cs : List (List ℕ)) → (runs v image reply cs).image ≡ image_after v image (reverse (requests v image reply cs))
  unfolding requests runs image_after
  leaves image reply [] = refl
  leaves image reply (c ∷ cs) =
      let s : Sent = record { command = c; lent = reply } in
      let later : List Sent = requests v (serve v image c reply).image (serve v image c reply).reply cs in
      rw (reverse-cons s later, image_first v image s (reverse later)) (leaves (serve v image c reply).image (serve v image c reply).reply cs)

pub traces : (v : Format) (image reply : List ℕ) (cs : List (List ℕ)) → Traced v image reply cs
traces v image reply cs =
    let same = run_logged v image (requests v image reply cs) in
    record {
      sends = sends v image reply cs;
      lends =
          lends_run v image reply cs
          ∙ ap (λ (l : List Got). reply ∷ map (λ (g : Got). g.reply) l) same
          ∙ ap (λ (l : List (List ℕ)). reply ∷ l) (of_shown (λ (g : Got). g.reply) (reverse (traced v image reply cs)));
      answers =
          answers_run v image reply cs
          ∙ ap (λ (l : List Got). map (λ (g : Got). g.answer) l) same
          ∙ of_shown (λ (g : Got). g.answer) (reverse (traced v image reply cs));
      leaves = leaves v image reply cs;
    }

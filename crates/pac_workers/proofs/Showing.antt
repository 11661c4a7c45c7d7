-- What twins tell, and jobs with one batch more.
use Rattle.std.proofs.Common.{◌≡◌, ℕ, Bool, List, [], ◌∷◌, length, refl, sym, ap, ◌∙◌, arith}
use Rattle.std.specs.Coded.{Coded}
use Rattle.atomic_table.specs.Seated.{TableId}
use Rattle.atomic_table.specs.declared.shared.Seat.{Seat}
use Rattle.pac_workers.specs.Twins.{IsShown}
use Rattle.pac_workers.specs.Shown.{Tells, TellsJob, shown_closed, shown_job}

module _ {M : Type 0} (job : M → M) (is_closed : M → Bool) where
  -- one is shown, of this job
  pub tells_of : (coded : Coded M) (id : TableId) (m : M) (twin : Seat M (List M)) → twin.table_id ≡ id → length twin.me.0 ≡ 1 → length twin.me.1 ≡ 0
      → coded.code (job m) ≡ shown_job job coded twin.me.0 → is_closed m ≡ shown_closed is_closed twin.me.0 → Tells job is_closed id (job m) (is_closed m) twin
  tells_of coded id m twin of alone free same_job same_closed = go twin.me.0 twin.me.1 refl alone free same_job same_closed
    where
      go : (shown : List M) (out : List (ℕ × M)) → twin.me ≡ (shown, out) → length shown ≡ 1 → length out ≡ 0
          → coded.code (job m) ≡ shown_job job coded shown → is_closed m ≡ shown_closed is_closed shown → Tells job is_closed id (job m) (is_closed m) twin
      go [] out is one none j c = absurd (omega (arith, one))
      go (x ∷ []) [] is one none j c = record { of = of; machine = x; shows = is; job_is = coded.inj (job x) (job m) (sym j); closed_is = sym c }
      go (x ∷ []) (o ∷ os) is one none j c = absurd (omega (arith, none))
      go (x ∷ y ∷ ys) out is one none j c = absurd (omega (arith, one))

  pub shown_of : (id : TableId) (all : M) (closed : Bool) (twin : Seat M (List M)) → Tells job is_closed id all closed twin → (m : M) × IsShown id m twin
  shown_of id all closed twin tells = (tells.machine, record { of = tells.of; shows = tells.shows })

  pub tells_shown : (id : TableId) (m : M) (twin : Seat M (List M)) → IsShown id m twin → Tells job is_closed id (job m) (is_closed m) twin
  tells_shown id m twin shown = record { of = shown.of; machine = m; shows = shown.shows; job_is = refl; closed_is = refl }

  abbrev first_or : M → List M → M
  first_or d [] = d
  first_or d (m ∷ ms) = m

  -- twins that show the same tell the same
  pub same_told : (one other : TableId) (a b : M) (x y : Bool) (twin mate : Seat M (List M)) → twin.me ≡ mate.me → Tells job is_closed one a x twin → Tells job is_closed other b y mate → (a ≡ b) × (x ≡ y)
  same_told one other a b x y twin mate same t u =
      let e : (t.machine ∷ [], []) ≡ (u.machine ∷ [], []) = sym t.shows ∙ same ∙ u.shows in
      let m : t.machine ≡ u.machine = λ i. first_or t.machine (e i).0 in
      (sym t.job_is ∙ ap job m ∙ u.job_is, sym t.closed_is ∙ ap is_closed m ∙ u.closed_is)

abbrev first_of : {M : Type 0} → M → List M → M
first_of d [] = d
first_of d (m ∷ ms) = m

pub same_job : {M : Type 0} (job : M → M) (one other : TableId) (a b : M) (twin mate : Seat M (List M)) → twin.me ≡ mate.me → TellsJob job one a twin → TellsJob job other b mate → a ≡ b
same_job job one other a b twin mate same t u =
    let e : (t.machine ∷ [], []) ≡ (u.machine ∷ [], []) = sym t.shows ∙ same ∙ u.shows in
    sym t.job_is ∙ (λ i. job (first_of t.machine (e i).0)) ∙ u.job_is

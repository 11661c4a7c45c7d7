-- A pass and a countdown, as contracts see them.
use Rattle.std.specs.Prelude.{ℕ, refl}
use Rattle.std.specs.Coded.{Coded, code_by, coded×, coded_ℕ}
use Rattle.atomic_table.specs.Seated.{TableId, table_id_coded}
use Rattle.pac_countdown.specs.declared.deeds.Deeds.{Deeds}
use Rattle.pac_countdown.specs.contracts.deeds.Deeds as deeds_type
use Rattle.pac_countdown.specs.declared.deeds.Agenda.{Agenda}
use Rattle.pac_countdown.specs.contracts.deeds.Agenda as agenda_type

-- which countdown a pass is of, which of its passes it is, and what it has done
pub record PassSeen : Type 0 where
  pub countdown : TableId
  pub number : ℕ
  pub deeds : Deeds

-- how passes are told apart
abbrev pub pass_code : Coded PassSeen
pass_code = code_by (TableId × (ℕ × Deeds)) (coded× table_id_coded (coded× coded_ℕ deeds_type.the_row.coded))
    (λ s. (s.countdown, (s.number, s.deeds))) (λ p. record { countdown = p.0; number = p.1.0; deeds = p.1.1 }) (λ s. refl)

-- what tells a countdown from any other, and its pieces and pairs
pub record CountdownSeen : Type 0 where
  pub id : TableId
  pub agenda : Agenda

-- how countdowns are told apart
abbrev pub countdown_code : Coded CountdownSeen
countdown_code = code_by (TableId × Agenda) (coded× table_id_coded agenda_type.the_row.coded)
    (λ s. (s.id, s.agenda)) (λ p. record { id = p.0; agenda = p.1 }) (λ s. refl)

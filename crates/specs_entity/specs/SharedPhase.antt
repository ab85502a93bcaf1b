-- What contracts see of entities that threads share, and of their seats.
use Rattle.std.specs.Prelude.{ℕ, refl}
use Rattle.std.specs.Coded.{Coded, code_by, coded×, coded_ℕ}
use Rattle.atomic_table.specs.Seated.{TableId, table_id_coded}
use Rattle.specs_entity.specs.Births.{Births, births_code}
use Rattle.specs_entity.specs.declared.phase_rule.PhaseKey.{PhaseKey}

-- a phase: its table, and what it began with
pub record SharedPhase : Type 0 where
  pub table_id : TableId
  pub key : PhaseKey

-- what a phase began with is stored as the pair of its parts
abbrev pub key_code : Coded PhaseKey
key_code = code_by (Births × ℕ) (coded× births_code coded_ℕ) (λ key. (key.before, key.reserve)) (λ p. record { before = p.0; reserve = p.1 }) (λ _. refl)

-- it is stored as the tuple of its parts
abbrev pub shared_phase_code : Coded SharedPhase
shared_phase_code =
    code_by (TableId × PhaseKey) (coded× table_id_coded key_code) (λ s. (s.table_id, s.key)) (λ p. record { table_id = p.0; key = p.1 }) (λ _. refl)

-- The text has the bank's catalogue, and is read as no other.
use Rattle.std.proofs.Common.{List, ℕ, sym, subst}
use Rattle.pac_types.specs.CatalogueText.{HasCatalogue}
use Rattle.pac_stress.specs.BankCatalogue.{bank_catalogue}
use Rattle.pac_stress.proofs.BankTyping.{bank-few, bank-has, no-other, none-refused}
use Rattle.pac_stress.proofs.catalogue.bank_catalogue.Goals as goal

pub unreachable-requires : goal.unreachable-requires
unreachable-requires c =
    let only = c.read_catalogue.ensures.only bank_catalogue (subst (λ (text : List ℕ). HasCatalogue text bank_catalogue) (sym c.bank_text.ensures) bank-has) in
    none-refused c.read_catalogue.result c.in-Err-Fault.field-0 c.in-Err-Fault.field-0-0 only c.in-Err-Fault.is c.in-Err-Fault.field-0-is

pub returns-in-Ok-clause-is : goal.returns-in-Ok-clause-is
returns-in-Ok-clause-is c =
    let only = c.read_catalogue.ensures.only bank_catalogue (subst (λ (text : List ℕ). HasCatalogue text bank_catalogue) (sym c.bank_text.ensures) bank-has) in
    no-other c.read_catalogue.result c.in-Ok.catalogue only c.in-Ok.is

pub returns-in-Ok-clause-text : goal.returns-in-Ok-clause-text
returns-in-Ok-clause-text c = bank-has

pub returns-in-Ok-clause-operations : goal.returns-in-Ok-clause-operations
returns-in-Ok-clause-operations c = bank-few

pub returns-in-Err-NoMemory-clause-text : goal.returns-in-Err-NoMemory-clause-text
returns-in-Err-NoMemory-clause-text c = bank-has

pub returns-in-Err-NoMemory-clause-operations : goal.returns-in-Err-NoMemory-clause-operations
returns-in-Err-NoMemory-clause-operations c = bank-few

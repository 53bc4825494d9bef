-- `zeovalki_count` meets its contract.
use Rattle.client_c.proofs.Exports.{number_exported}
use Rattle.client_library.specs.Foreign.{TellsCount}
use Rattle.client_library.specs.contracts.foreign.ForeignClient.{the_row}
use Rattle.client_library.proofs.foreign.ForeignClient.count.Met as of_thm
use Rattle.client_library.proofs.foreign.ForeignClient.count.Symbol.{name as #callee}
use Rattle.client_c.specs.contracts.zeovalki_count.Key.{name as key}
use Rattle.client_c.proofs.zeovalki_count.Statement.{statement}
use Rattle.client_c.proofs.zeovalki_count.Code as code

pub zeovalki_count_spec : {M : Type 1} → statement M
zeovalki_count_spec 𝓤 𝓛 𝓜 𝓡 wired =
    number_exported the_row 𝓛 𝓜 𝓡 _ _ key #callee TellsCount
    (code.unfolded 𝓤 𝓛.H 𝓜 𝓡 wired)
    (of_thm.met 𝓤 𝓛 𝓜 𝓡 (code.calls-client_library::foreign::ForeignClient::count 𝓡.env wired))

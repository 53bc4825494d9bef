-- `zeovalki_ended` meets its contract.
use Rattle.client_c.proofs.Exports.{alone_exported}
use Rattle.client_library.specs.Foreign.{TellsEnded}
use Rattle.client_library.specs.contracts.foreign.ForeignClient.{the_row}
use Rattle.client_library.proofs.foreign.ForeignClient.has_ended.Met as of_thm
use Rattle.client_library.proofs.foreign.ForeignClient.has_ended.Symbol.{name as #callee}
use Rattle.client_c.specs.contracts.zeovalki_ended.Key.{name as key}
use Rattle.client_c.proofs.zeovalki_ended.Statement.{statement}
use Rattle.client_c.proofs.zeovalki_ended.Code as code

pub zeovalki_ended_spec : {M : Type 1} → statement M
zeovalki_ended_spec 𝓤 𝓛 𝓜 𝓡 wired =
    alone_exported the_row 𝓛 𝓜 𝓡 _ _ key #callee TellsEnded
    (code.unfolded 𝓤 𝓛.H 𝓜 𝓡 wired)
    (of_thm.met 𝓤 𝓛 𝓜 𝓡 (code.calls-client_library::foreign::ForeignClient::has_ended 𝓡.env wired))

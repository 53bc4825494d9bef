-- `zeovalki_end` meets its contract.
use Rattle.client_c.proofs.Exports.{alone_exported}
use Rattle.client_library.specs.Foreign.{OnOpen}
use Rattle.client_library.specs.Handles.{Ends}
use Rattle.client_library.specs.contracts.foreign.ForeignClient.{the_row}
use Rattle.client_library.proofs.foreign.ForeignClient.end.Met as of_thm
use Rattle.client_library.proofs.foreign.ForeignClient.end.Symbol.{name as #callee}
use Rattle.client_c.specs.contracts.zeovalki_end.Key.{name as key}
use Rattle.client_c.proofs.zeovalki_end.Statement.{statement}
use Rattle.client_c.proofs.zeovalki_end.Code as code

pub zeovalki_end_spec : {M : Type 1} → statement M
zeovalki_end_spec 𝓤 𝓛 𝓜 𝓡 wired =
    alone_exported the_row 𝓛 𝓜 𝓡 _ _ key #callee (OnOpen Ends)
    (code.unfolded 𝓤 𝓛.H 𝓜 𝓡 wired)
    (of_thm.met 𝓤 𝓛 𝓜 𝓡 (code.calls-client_library::foreign::ForeignClient::end 𝓡.env wired))

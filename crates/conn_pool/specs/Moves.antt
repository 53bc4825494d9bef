-- What a turn at the dispatcher adds to a worker's shares.
use Rattle.std.specs.Prelude.{◌≡◌, ◌<◌, ℕ}
use Rattle.edge_links.specs.declared.counts.Counts.{Counts}
use Rattle.edge_links.specs.Counts.{Counted}
use Rattle.conn_pool.specs.declared.dispatcher.Next.{Next}
use Rattle.conn_pool.specs.declared.dispatcher.Next.TheVariants.{Link, Wait, Over}
use Rattle.conn_pool.specs.declared.dispatcher.Stage.{Stage}
use Rattle.conn_pool.specs.declared.dispatcher.Stage.TheVariants.{Open, Failed, Closed, Full}
use Rattle.conn_pool.specs.declared.dispatcher.Stage.TheVariants.{NoMemory}

abbrev pub links_in : {K : Type 0} → Next K → ℕ
links_in (Link k) = 1
links_in Wait = 0
links_in Over = 0

abbrev pub leaves_by : {K : Type 0} → Next K → ℕ
leaves_by (Link k) = 0
leaves_by Wait = 0
leaves_by Over = 1

-- why so many links were given and no more, unless they still are: what the acceptor's counts were,
-- and are
abbrev pub EndedBy : Stage → Counts → Counts → ℕ → ℕ → Type 0
EndedBy Open old new limit given = new.faults ≡ old.faults
EndedBy Failed old new limit given = Counted old.faults new.faults
EndedBy Closed old new limit given = Counted old.ends new.ends × (new.faults ≡ old.faults)
EndedBy Full old new limit given = (0 < limit) × (given ≡ limit) × (new.faults ≡ old.faults)
EndedBy NoMemory old new limit given = new.faults ≡ old.faults

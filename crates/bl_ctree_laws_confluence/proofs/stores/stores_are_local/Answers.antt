use Rattle.bl_ctree_laws_confluence.proofs.OnStores.Homes.{homes_lead_on}
use Rattle.bl_ctree_laws_confluence.proofs.OnStores.Views.{outcomes_there_are_local, values_there_are_local, views_are_local}
use Rattle.bl_ctree_laws_confluence.proofs.stores.stores_are_local.Goals as goal

pub returns : goal.returns
returns c = record { homes = homes_lead_on; views = views_are_local; values = values_there_are_local; outcomes = outcomes_there_are_local }

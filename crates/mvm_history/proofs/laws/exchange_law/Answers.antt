use Rattle.mvm_history.proofs.Exchanging.{exchange_offer, exchange_receipt, exchange_took}
use Rattle.mvm_history.proofs.laws.exchange_law.Goals as goal

pub returns-clause-offer : goal.returns-clause-offer
returns-clause-offer c = exchange_offer

pub returns-clause-receipt : goal.returns-clause-receipt
returns-clause-receipt c = exchange_receipt

pub returns-clause-took : goal.returns-clause-took
returns-clause-took c = exchange_took

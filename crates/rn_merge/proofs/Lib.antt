mod Runs
mod FaultsOfTexts
mod Verdicts

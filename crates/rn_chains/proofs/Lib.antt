pub mod ChainSteps
